-- What a run that said this means, by its end.
use Rattle.std.proofs.Common.{◌≡◌, ◌≢◌, inl, inr, ℕ, List, [], Option, Some, None, Result, Ok, refl, sym, ap, ◌∙◌, subst}
use Rattle.foundation.specs.Watched.{Watched, Rose}
use Rattle.foundation.specs.Results.{ok_same, some_same, no_both}
use Rattle.foundation.specs.declared.no_memory.NoMemory as declared
use Rattle.sigstore_tuf_text.specs.declared.error.Error.{Error}
use Rattle.sigstore_tuf_text.specs.declared.error.Error.TheVariants as tuf
use Rattle.sigstore_tuf_rules.specs.declared.chain.TrustChain.{TrustChain}
use Rattle.sigstore_tuf_rules.specs.declared.documents.InForce.{InForce}
use Rattle.command_files.specs.Answer.{answer}
use Rattle.command_files.specs.Ending.{TakesAll}
use Rattle.command_files.specs.Gather.{anchored_of}
use Rattle.command_files.specs.Starting.{Command, unstarted, stopped, begun}
use Rattle.command_files.specs.declared.answer.Answer.{Answer}
use Rattle.command_files.specs.declared.answer.Status.{Status}
use Rattle.command_files.specs.declared.answer.Status.TheVariants as status
use Rattle.command_files.proofs.Starts.{stopped_means}
use Rattle.command_download.specs.declared.fault.DownloadFault.{DownloadFault}
use Rattle.command_download.specs.declared.fault.DownloadFault.TheVariants.{Tuf, Unplaced, NoMemory}
use Rattle.command_download.specs.declared.layout.Download.{Download}
use Rattle.command_download.specs.Client.{Anchor, Outside, fault_of, Refreshes, DeliversEach}
use Rattle.command_download.specs.Layout.{download_layout_of}
use Rattle.command_download.specs.Report.{report_of, refusal_of, unplaced_of}
use Rattle.command_download.specs.Run.{Environment, stop_answer, answer_of, Runs, unrefreshed, told, Says}
use Rattle.command_download.specs.Promises.{Took, Asked, anchor_in, DownloadCause, Means, Shelves}
use Rattle.command_download.proofs.Current.{After, is_after, Unrefreshed, is_unrefreshed}
use Rattle.command_download.proofs.Following.{told_refusal, not_unplaced, none_more, each_took, each_all, each_stands, each_unplaced, each_refused}

module _ (command : Command) (before after : Environment) (asked : Asked command before after) where
  abbrev anchor : Anchor
  anchor = anchor_in asked

  abbrev downloads : List Download
  downloads = asked.layout.downloads

  -- where nothing was put in place
  took_none : after.outside.shelf ≡ before.outside.shelf → Took anchor downloads before.outside after.outside []
  took_none same = record { trusted = tt; taken = ap (λ (w : Watched _). w.told) same ∙ sym (none_more before.outside.shelf.told) }

  -- ---- what was put in place

  pub run_shelves : (result : Result Answer declared.NoMemory) → Runs anchor downloads before.outside after.outside result → Shelves command before after
  run_shelves result (unrefreshed e r said) = inl (is_unrefreshed anchor before.outside after.outside downloads e r).shelf
  run_shelves result (told mid set r t) =
      let a = is_after anchor before.outside mid set r in
      inr (asked, t.chains, each_took anchor set a.current a.given downloads before.outside mid after.outside t.chains t.stop a.shelf t.delivers)

  -- ---- what was said

  module _ (out out' : Watched (List ℕ)) where
    abbrev M : Status → Type 0
    M ended = Means command before after out out' ended

    as_said : (text : List ℕ) (s : Status) (said : Answer) → Some (answer s text) ≡ Some said → (TakesAll out out' text → M s) → TakesAll out out' said.text → M said.status
    as_said text s said is f = subst (λ (x : Answer). TakesAll out out' x.text → M x.status) (some_same (answer s text) said is) f

    abbrev Cause : List TrustChain → Error → Type 0
    Cause chains e = DownloadCause anchor downloads before.outside after.outside chains e

    refused_means : (chains : List TrustChain) (e : Error) (said : Answer) → Took anchor downloads before.outside after.outside chains → e ≢ tuf.NoMemory → Cause chains e
        → Some (answer status.Refused (refusal_of downloads chains e)) ≡ Some said → TakesAll out out' said.text → M said.status
    refused_means chains e said took other cause is w =
        as_said (refusal_of downloads chains e) status.Refused said is (λ w. record { asked = asked; chains = chains; took = took; refusal = e; other = other; cause = cause; written = w }) w

    by_refusal : (e : Error) (fault : DownloadFault) (said : Answer) → Unrefreshed anchor before.outside after.outside downloads e → fault ≡ fault_of e → stop_answer downloads [] fault ≡ Some said → TakesAll out out' said.text → M said.status
    by_refusal e (Tuf d) said u same is w =
        let is_told = told_refusal e d same in
        refused_means [] d said (took_none u.shelf) is_told.1 (subst (Cause []) is_told.0 (u.cause (λ n. is_told.1 (sym is_told.0 ∙ n)))) is w
    by_refusal e Unplaced said u same is w = absurd (not_unplaced e same)
    by_refusal e NoMemory said u same is w = cc

    module _ (mid : Outside) (set : InForce) (refreshed : Refreshes anchor before.outside mid (Ok set)) where
      a : After anchor before.outside mid set
      a = is_after anchor before.outside mid set refreshed

      abbrev Each : List TrustChain → Option DownloadFault → Type 0
      Each chains stop = DeliversEach anchor.session set downloads mid after.outside chains stop

      took_so : (chains : List TrustChain) (stop : Option DownloadFault) → Each chains stop → Took anchor downloads before.outside after.outside chains
      took_so chains stop run = each_took anchor set a.current a.given downloads before.outside mid after.outside chains stop a.shelf run

      rose_so : Rose mid.shelf.faults after.outside.shelf.faults → Rose before.outside.shelf.faults after.outside.shelf.faults
      rose_so r = subst (λ (w : Watched _). Rose w.faults after.outside.shelf.faults) a.shelf r

      by_stop : (chains : List TrustChain) (stop : Option DownloadFault) (said : Answer) → Each chains stop → answer_of set downloads chains stop ≡ Some said → TakesAll out out' said.text → M said.status
      by_stop chains None said run is w =
          as_said (report_of set downloads chains) status.Accepted said is
          (λ w. record {
            asked = asked;
            chains = chains;
            took = took_so chains None run;
            all = each_all anchor set a.current a.given downloads mid after.outside chains None refl run;
            documents = set;
            current = a.current;
            newest = a.newest;
            mid = mid;
            refreshed = refreshed;
            delivers = run;
            one = each_stands anchor set a.current a.given downloads mid after.outside chains None run;
            written = w;
          }) w
      by_stop chains (Some (Tuf e)) said run is w =
          let r = each_refused anchor set a.current a.given downloads before.outside mid after.outside chains (Some (Tuf e)) e a.since refl run in
          refused_means chains e said (took_so chains (Some (Tuf e)) run) r.0 r.1 is w
      by_stop chains (Some Unplaced) said run is w =
          let u = each_unplaced anchor set a.current a.given downloads mid after.outside chains (Some Unplaced) refl run in
          as_said (unplaced_of downloads chains) status.Output said is
          (λ w. inr (record { asked = asked; chains = chains; took = took_so chains (Some Unplaced) run; next = u.next; next_is = u.next_is; rose = rose_so u.rose; written = w })) w
      by_stop chains (Some NoMemory) said run is w = cc

    pub run_means : (said : Answer) → Runs anchor downloads before.outside after.outside (Ok said) → TakesAll out out' said.text → M said.status
    run_means said (unrefreshed e r is) w = by_refusal e (fault_of e) said (is_unrefreshed anchor before.outside after.outside downloads e r) refl is w
    run_means said (told mid set r t) w = by_stop mid set r t.chains t.stop said t.delivers t.said w

-- ---- the whole

module _ (command : Command) (before after : Environment) where
  pub said_shelves : (result : Result Answer declared.NoMemory) → Says command before after result → Shelves command before after
  said_shelves result (unstarted e s o is) = inl (ap (λ (x : Outside). x.shelf) o)
  said_shelves result (stopped said s o is) = inl (ap (λ (x : Outside). x.shelf) o)
  said_shelves result (begun layout anchored b r) = run_shelves command before after (record { layout = layout; anchored = anchored; begins = b }) result r

  module _ (out out' : Watched (List ℕ)) where
    pub said_means : (said : Answer) → Says command before after (Ok said) → TakesAll out out' said.text → Means command before after out out' said.status
    said_means said (unstarted e s o is) w = no_both said e is
    said_means said (stopped line s o is) w =
        subst (λ (x : Answer). TakesAll out out' x.text → Means command before after out out' x.status) (sym (ok_same said line is))
        (stopped_means (download_layout_of command.words) anchored_of before after out out' (Means command before after out out') (λ m. m) (λ m. m) o line s) w
    said_means said (begun layout anchored b r) w = run_means command before after (record { layout = layout; anchored = anchored; begins = b }) out out' said r w
