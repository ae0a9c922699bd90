-- Where nothing outside fails, each target that is offered is put in its place.
use Rattle.std.proofs.Common.{◌≡◌, ◌⊎◌, inl, inr, ℕ, List, [], ◌∷◌, length, codes, Bool, true, false, if◌then◌else◌, bytes_eq, Option, Some, None, Result, Ok, Err, refl, sym, ap, ◌∙◌, subst}
use Rattle.std.specs.List.{AllByRecursion}
use Rattle.std.proofs.lemmas.Slice.Eq.{bytes_eq-Decides}
use Rattle.foundation.specs.Watched.{Watched, Rose}
use Rattle.foundation.specs.Results.{ok_same, err_same, some_same, no_both, step_ok}
use Rattle.sigstore_tuf_text.specs.declared.error.Error.{Error}
use Rattle.sigstore_tuf_text.specs.declared.error.Error.TheVariants as tuf
use Rattle.sigstore_tuf_outside.specs.Repository.{Quiet, Files, Folders}
use Rattle.sigstore_tuf_rules.specs.declared.chain.TrustChain.{TrustChain}
use Rattle.sigstore_tuf_rules.specs.declared.documents.InForce.{InForce}
use Rattle.sigstore_tuf_rules.specs.Authorised.{given_in}
use Rattle.sigstore_tuf_runs.specs.Chain.{GetsTarget}
use Rattle.sigstore_tuf_causes.proofs.Faults.{quiet_first, quiet_second, not_both}
use Rattle.sigstore_tuf_causes.proofs.Followed.{each_map}
use Rattle.sigstore_tuf_offers.proofs.TargetCompleting.{GivenChain, chain_wanting, chain_given}
use Rattle.command_files.specs.Gather.{anchored_of}
use Rattle.command_files.specs.Layout.{layout_under}
use Rattle.command_files.specs.Starting.{Command, now_of, unstarted, stopped, begun}
use Rattle.command_files.specs.declared.answer.Answer.{Answer}
use Rattle.command_files.specs.declared.answer.Status.TheVariants as status
use Rattle.command_files.specs.declared.gather.Anchored.{Anchored}
use Rattle.command_files.specs.declared.usage_fault.UsageFault.{UsageFault}
use Rattle.command_files.specs.declared.usage_fault.UsageFault.TheVariants as usage
use Rattle.command_files.proofs.Starts.{quiet_not_rose, never_stopped, begun_same}
use Rattle.command_download.specs.declared.fault.DownloadFault.{DownloadFault}
use Rattle.command_download.specs.declared.fault.DownloadFault.TheVariants.{NoMemory}
use Rattle.command_download.specs.declared.layout.Download.{Download}
use Rattle.command_download.specs.declared.layout.DownloadLayout.{DownloadLayout}
use Rattle.command_download.specs.declared.layout.Sorted.{Sorted}
use Rattle.command_download.specs.declared.shelf.ShelfFault.{ShelfFault}
use Rattle.command_download.specs.declared.shelf.ShelfFault.TheVariants as shelf
use Rattle.command_download.specs.Client.{Anchor, Outside, state_in, top_of, fault_of, fault_of_shelf, Refreshes, Delivers, unbegun, unfound, unplaced, delivered, DeliversEach, all_done, wanting, failed, goes_on}
use Rattle.command_download.specs.Layout.{download_form, words_sorted, nothing_sorted, is_few, whole_of, all_sorted, sorted_of, download_layout_of}
use Rattle.command_download.specs.Run.{Environment, anchor_of, stop_answer, answer_of, Runs, unrefreshed, told, Says}
use Rattle.command_download.specs.Promises.{HasTaken, AreCurrent, IsOffered, Favoured, chains_of}
use Rattle.command_download.proofs.Current.{After, is_after}
use Rattle.command_download.proofs.Following.{good, each_since, each_later, each_took}
use Rattle.command_download.proofs.Offered.{Arrives, arrives_after, wants_after, arrives_top, given_own, arrives_own, arrives_other}

-- ---- something is asked for

some_there : (ds : List Download) → is_few (length ds) ≡ true → (d : Download) × (rest : List Download) × (ds ≡ d ∷ rest)
some_there [] h = cc
some_there (d ∷ ds) h = (d, ds, refl)

sorted_some : (s t : Sorted) → all_sorted s ≡ Ok t → (d : Download) × (rest : List Download) × (t.downloads ≡ d ∷ rest)
sorted_some s t h = by_waiting s.waiting h
  where
    by_count : (b : Bool) → is_few (length s.downloads) ≡ b → ◌≡◌ {A = Result Sorted UsageFault} (if b then Ok s else Err usage.Usage) (Ok t) → (d : Download) × (rest : List Download) × (t.downloads ≡ d ∷ rest)
    by_count true few e = some_there t.downloads (ap (λ (x : Sorted). is_few (length x.downloads)) (sym (ok_same s t e)) ∙ few)
    by_count false few e = no_both t usage.Usage (sym e)

    by_waiting : (w : Option (List ℕ)) → whole_of s w ≡ Ok t → (d : Download) × (rest : List Download) × (t.downloads ≡ d ∷ rest)
    by_waiting None e = by_count (is_few (length s.downloads)) refl e
    by_waiting (Some name) e = no_both t usage.Usage (sym e)

some_asked : (words : List (List ℕ)) (layout : DownloadLayout) → download_layout_of words ≡ Ok layout → (d : Download) × (rest : List Download) × (layout.downloads ≡ d ∷ rest)
unfolding download_layout_of
some_asked words layout h =
    let a = step_ok (sorted_of words) _ layout h in
    let b = step_ok (words_sorted nothing_sorted words) all_sorted a.0 a.1 in
    let c = step_ok (layout_under (download_form (codes "download") (codes "--provider")) a.0.plain) _ layout a.2 in
    let some = sorted_some b.0 a.0 b.2 in
    (some.0, some.1, ap (λ (l : DownloadLayout). l.downloads) (sym (ok_same _ layout c.2)) ∙ some.2)

-- ---- the targets

module _ (anchor : Anchor) (folders : Folders) (files : Files) (chains : List ℕ → TrustChain) (set : InForce) (current : AreCurrent anchor set) (given : given_in set ≡ anchor.root) where
  -- the chain of a target is offered, and its documents are in force
  pub record Ready (outside : Outside) (d : Download) : Type 0 where
    pub offered : IsOffered anchor folders files d.target (chains d.target)
    pub arrives : Arrives anchor folders files d.target (chains d.target) offered (state_in (top_of set) outside)

  abbrev pub AreReady : Outside → List Download → Type 0
  AreReady outside ds = AllByRecursion (Ready outside) ds

  pub ready_of : (outside : Outside) (ds : List Download) → ((d : Download) (o : IsOffered anchor folders files d.target (chains d.target)) → Arrives anchor folders files d.target (chains d.target) o (state_in set outside))
      → AllByRecursion (λ (d : Download). IsOffered anchor folders files d.target (chains d.target)) ds → AreReady outside ds
  ready_of outside ds f all =
      each_map (λ (d : Download). IsOffered anchor folders files d.target (chains d.target)) (Ready outside) ds
      (λ d o. record { offered = o; arrives = arrives_top anchor folders files d.target (chains d.target) o set outside (f d o) }) all

  -- ---- one of them

  given_none : {P : Type 0} (chain : TrustChain) (e : Error) → GivenChain P chain (Err e) → e ≡ tuf.NoMemory
  given_none chain e (chain_wanting h) = err_same e tuf.NoMemory h
  given_none chain e (chain_given h w) = no_both chain e (sym h)

  given_same : {P : Type 0} (chain found : TrustChain) → GivenChain P chain (Ok found) → found ≡ chain
  given_same chain found (chain_wanting h) = no_both found tuf.NoMemory h
  given_same chain found (chain_given h w) = ok_same found chain h

  module _ (d : Download) (before after : Outside) where
    module _ (r : Ready before d) (quiet : Quiet before.repo.faults after.repo.faults) where
      -- the chain is the offered one
      chain_same : (found : TrustChain) → Delivers anchor.session set d before after (Ok found) → found ≡ chains d.target
      chain_same found one = by_run one
        where
          told_same : after.repo.told ≡ before.repo.told
          told_same = (good anchor set current given d before after found one).since.same

          by_run : Delivers anchor.session set d before after (Ok found) → found ≡ chains d.target
          by_run (unbegun s is) = no_both found NoMemory is
          by_run (unfound end e g s is) = no_both found (fault_of e) is
          by_run (unplaced end c f g p is) = no_both found (fault_of_shelf f) is
          by_run (delivered end c g p is) =
              ok_same found c is
              ∙ given_same (chains d.target) c (given_own anchor folders files d.target (chains d.target) r.offered set before after r.arrives told_same end (Ok c) quiet g)

      -- nothing but memory was wanting
      fault_wants : (fault : DownloadFault) → after.repo.told ≡ before.repo.told → Quiet before.shelf.faults after.shelf.faults → Delivers anchor.session set d before after (Err fault) → fault ≡ NoMemory
      fault_wants fault same calm (unbegun s is) = err_same fault NoMemory is
      fault_wants fault same calm (unfound end e g s is) =
          err_same fault (fault_of e) is
          ∙ ap fault_of (given_none (chains d.target) e (given_own anchor folders files d.target (chains d.target) r.offered set before after r.arrives same end (Err e) quiet g))
      fault_wants fault same calm (unplaced end c f g p is) = err_same fault (fault_of_shelf f) is ∙ by_shelf f p.failed
        where
          by_shelf : (f : ShelfFault) → (f ≡ shelf.Failed → Rose before.shelf.faults after.shelf.faults) → fault_of_shelf f ≡ NoMemory
          by_shelf shelf.Failed h = absurd (not_both before.shelf.faults after.shelf.faults (h refl) calm)
          by_shelf shelf.NoMemory h = refl
      fault_wants fault same calm (delivered end c g p is) = no_both c fault (sym is)

    -- the others stay ready
    stays_ready : (found : TrustChain) → Quiet before.repo.faults after.repo.faults → Delivers anchor.session set d before after (Ok found) → (q : Download) → Ready before q → Ready after q
    stays_ready found quiet one q r = by_run one
      where
        told_same : after.repo.told ≡ before.repo.told
        told_same = (good anchor set current given d before after found one).since.same

        by_name : (b : Bool) (end : InForce) (c : TrustChain) → bytes_eq q.target d.target ≡ b → GetsTarget anchor.session d.target (state_in (top_of set) before) (state_in end after) (Ok c) → Ready after q
        by_name true end c name g =
            let is = (bytes_eq-Decides q.target d.target).0 name in
            record {
              offered = r.offered;
              arrives = arrives_own anchor folders files q.target (chains q.target) r.offered set before after r.arrives told_same end c quiet
                  (subst (λ n. GetsTarget anchor.session n (state_in (top_of set) before) (state_in end after) (Ok c)) (sym is) g);
            }
        by_name false end c name g = record {
          offered = r.offered;
          arrives = arrives_other anchor folders files q.target (chains q.target) r.offered set before after r.arrives told_same d.target end (Ok c) name g;
        }

        by_run : Delivers anchor.session set d before after (Ok found) → Ready after q
        by_run (unbegun s is) = no_both found NoMemory is
        by_run (unfound end e g s is) = no_both found (fault_of e) is
        by_run (unplaced end c f g p is) = no_both found (fault_of_shelf f) is
        by_run (delivered end c g p is) = by_name (bytes_eq q.target d.target) end c refl g

  -- ---- all of them

  abbrev pub Completed : List Download → List TrustChain → Option DownloadFault → Type 0
  Completed ds found stop = (stop ≡ Some NoMemory) ⊎ ((stop ≡ None) × (found ≡ chains_of chains ds))

  pub each_completes : (ds : List Download) (before after : Outside) (found : List TrustChain) (stop : Option DownloadFault) → AreReady before ds → Quiet before.repo.faults after.repo.faults → Quiet before.shelf.faults after.shelf.faults
      → DeliversEach anchor.session set ds before after found stop → Completed ds found stop
  each_completes _ _ _ _ _ ready quiet calm (all_done o) = inr (refl, refl)
  each_completes _ _ _ _ _ ready quiet calm (wanting ds o) = inl refl
  each_completes _ _ _ _ _ ready quiet calm (failed d ds o o' fault one) =
      inl (ap Some (fault_wants d o o' ready.0 quiet fault (each_since anchor set current given (d ∷ ds) o o' [] (Some fault) (failed d ds o o' fault one)).same calm one))
  each_completes _ _ _ _ _ ready quiet calm (goes_on d ds o mid o' chain found stop one more) =
      let first = good anchor set current given d o mid chain one in
      let later = each_since anchor set current given ds mid o' found stop more in
      let shelf_later = each_later anchor set current given ds mid o' found stop more in
      let quiet_one = quiet_first o.repo.faults mid.repo.faults o'.repo.faults first.since.later later.later quiet in
      by_rest (chain_same d o mid ready.0 quiet_one chain one)
      (each_completes ds mid o' found stop (each_map (Ready o) (Ready mid) ds (λ q r. stays_ready d o mid chain quiet_one one q r) ready.1)
      (quiet_second o.repo.faults mid.repo.faults o'.repo.faults first.since.later later.later quiet)
      (quiet_second o.shelf.faults mid.shelf.faults o'.shelf.faults first.later shelf_later calm) more)
    where
      by_rest : chain ≡ chains d.target → Completed ds found stop → Completed (d ∷ ds) (chain ∷ found) stop
      by_rest same (inl h) = inl h
      by_rest same (inr h) = inr (h.0, ap (λ c. c ∷ found) same ∙ ap (λ cs. chains d.target ∷ cs) h.1)

-- ---- the run

module _ (command : Command) (before after : Environment) (f : Favoured command before after) where
  abbrev anchor : Anchor
  anchor = anchor_of f.anchored (now_of f.layout.places command.clock)

  pub record Succeeds (said : Answer) : Type 0 where
    pub accepted : said.status ≡ status.Accepted
    pub taken : HasTaken f.layout.downloads (chains_of f.chains f.layout.downloads) before.outside.shelf after.outside.shelf

  unsaid : (ds : List Download) (cs : List TrustChain) (fault : DownloadFault) (said : Answer) → fault ≡ NoMemory → stop_answer ds cs fault ≡ Some said → ⊥
  unsaid ds cs fault said is h = let never : None ≡ Some said = sym (ap (stop_answer ds cs) is) ∙ h in cc

  wants : (e : Error) → Refreshes anchor before.outside after.outside (Err e) → e ≡ tuf.NoMemory
  wants e r =
      let some = some_asked command.words f.layout f.worded in
      let d = some.0 in
      let all = subst (AllByRecursion (λ (d : Download). IsOffered anchor f.folders f.files d.target (f.chains d.target))) some.2 f.offered in
      wants_after anchor f.folders f.files d.target (f.chains d.target) all.0 before.outside after.outside f.repo.told f.store f.repo.quiet e r

  run_succeeds : (said : Answer) → Runs anchor f.layout.downloads before.outside after.outside (Ok said) → Succeeds said
  run_succeeds said (unrefreshed e r is) = absurd (unsaid f.layout.downloads [] (fault_of e) said (ap fault_of (wants e r)) is)
  run_succeeds said (told mid set r t) = by_end (t.chains) (t.stop) t.delivers t.said
    where
      a : After anchor before.outside mid set
      a = is_after anchor before.outside mid set r

      by_end : (found : List TrustChain) (stop : Option DownloadFault) → DeliversEach anchor.session set f.layout.downloads mid after.outside found stop → answer_of set f.layout.downloads found stop ≡ Some said → Succeeds said
      by_end found stop run is =
          let later = each_since anchor set a.current a.given f.layout.downloads mid after.outside found stop run in
          let quiet_one = quiet_first before.outside.repo.faults mid.repo.faults after.outside.repo.faults a.since.later later.later f.repo.quiet in
          let quiet_two = quiet_second before.outside.repo.faults mid.repo.faults after.outside.repo.faults a.since.later later.later f.repo.quiet in
          let ready = ready_of anchor f.folders f.files f.chains set a.current a.given mid f.layout.downloads
          (λ d o. arrives_after anchor f.folders f.files d.target (f.chains d.target) o before.outside mid f.repo.told f.store quiet_one set r) f.offered in
          by_completed (each_completes anchor f.folders f.files f.chains set a.current a.given f.layout.downloads mid after.outside found stop ready quiet_two
          (subst (λ (w : Watched _). Quiet w.faults after.outside.shelf.faults) (sym a.shelf) f.shelf) run)
        where
          by_completed : Completed anchor f.folders f.files f.chains set a.current a.given f.layout.downloads found stop → Succeeds said
          by_completed (inl h) = let never : None ≡ Some said = sym (ap (answer_of set f.layout.downloads found) h) ∙ is in cc
          by_completed (inr h) = record {
            accepted = ap (λ (x : Answer). x.status) (sym (some_same _ said (sym (ap (answer_of set f.layout.downloads found) h.0) ∙ is)));
            taken = subst (λ cs. HasTaken f.layout.downloads cs before.outside.shelf after.outside.shelf) h.1
                (each_took anchor set a.current a.given f.layout.downloads before.outside mid after.outside found stop a.shelf run).taken;
          }

  pub said_succeeds : (said : Answer) → Says command before after (Ok said) → Succeeds said
  said_succeeds said (unstarted e s o is) = no_both said e is
  said_succeeds said (stopped line s o is) =
      absurd (never_stopped (download_layout_of command.words) anchored_of before.inputs after.inputs f.layout f.held f.anchored f.worded f.inputs.told
      (λ rose. quiet_not_rose before.inputs.faults after.inputs.faults f.inputs.quiet rose) f.anchored_is line s)
  said_succeeds said (begun layout anchored b r) =
      let same = begun_same (download_layout_of command.words) anchored_of before.inputs after.inputs f.layout f.held f.anchored f.worded f.inputs.told
      (λ rose. quiet_not_rose before.inputs.faults after.inputs.faults f.inputs.quiet rose) f.anchored_is layout anchored b in
      run_succeeds said
      (subst (λ (x : Anchored). Runs (anchor_of x (now_of f.layout.places command.clock)) f.layout.downloads before.outside after.outside (Ok said)) same.1
      (subst (λ (x : DownloadLayout). Runs (anchor_of anchored (now_of x.places command.clock)) x.downloads before.outside after.outside (Ok said)) same.0 r))
