-- Where nothing outside fails, `check` trusts an archive of a trusted chain that is recent enough, and refuses an older one.
use Rattle.std.proofs.Common.{◌≡◌, ◌⊎◌, inl, inr, ℕ, List, length, ◌≤◌, Option, Some, None, Result, Ok, Err, codes, refl, sym, ap, ◌∙◌, subst, arith}
use Rattle.foundation.specs.Results.{ok_same, some_same, no_both}
use Rattle.foundation.specs.Watched.{Watched}
use Rattle.foundation.specs.declared.no_memory.NoMemory.{NoMemory}
use Rattle.sigstore_tuf_rules.specs.declared.chain.TrustChain.{TrustChain}
use Rattle.sigstore_verify.specs.FromRoot.{trust_path}
use Rattle.sigstore_verify.specs.Inputs.{Anchor}
use Rattle.sigstore_verify.specs.Complete.{TellsQuietly}
use Rattle.trust_archive.proofs.Whole.{chain_complete}
use Rattle.command_files.specs.Answer.{answer}
use Rattle.command_files.specs.Ending.{TakesAll, OrFails, EndsText}
use Rattle.command_files.specs.Gather.{anchored_of}
use Rattle.command_files.specs.Starting.{Command, now_of, unstarted, stopped, begun}
use Rattle.command_files.specs.declared.answer.Answer.{Answer}
use Rattle.command_files.specs.declared.answer.Status.{Status}
use Rattle.command_files.specs.declared.answer.Status.TheVariants as status
use Rattle.command_files.specs.declared.gather.Anchored.{Anchored}
use Rattle.command_files.proofs.Endings.{ends_so}
use Rattle.command_files.proofs.Starts.{quiet_not_rose, never_stopped, begun_same}
use Rattle.command_files.proofs.Wholes.{same_whole, never_unread}
use Rattle.command_verify.specs.Report.{chain_text}
use Rattle.command_verify.specs.Run.{anchor_of}
use Rattle.command_archive.specs.declared.check_words.CheckLayout.{CheckLayout}
use Rattle.command_archive.specs.declared.finding.CheckFault.{CheckFault}
use Rattle.command_archive.specs.declared.finding.CheckFault.TheVariants as fault
use Rattle.command_archive.specs.Check.{IsRecent, IsOlder, HoldsTrusted, Takes, Finds, unread, read, wanting, rollback_answer, fault_answer}
use Rattle.command_archive.specs.CheckComplete.{Favoured, TrustsWhole, RefusesOlder, Completes}
use Rattle.command_archive.specs.CheckRun.{Outside, Environment, Delivers, Checks, trusts, withholds, declines, wants, Says}
use Rattle.command_archive.specs.Layout.{check_layout_of}
use Rattle.command_archive.specs.Reading.{max_archive, held_in, Holds}

never_both : (least : Option ℕ) (chain : TrustChain) → IsRecent least chain → IsOlder least chain → ⊥
never_both None chain r o = o
never_both (Some least) chain (v, e, h) (w, d, l) =
    let same = ok_same v w (sym e ∙ d) in
    omega (arith, same, h, l)

-- ---- what is found of bytes that are told

module _ (anchor : Anchor) (least : Option ℕ) (old new : Watched (List ℕ)) (bytes : List ℕ) (tells : TellsQuietly old new bytes) (short : length bytes ≤ max_archive) where
  found_takes : (result : Result TrustChain CheckFault) → Finds anchor least old new result → (result ≡ Err fault.NoMemory) ⊎ Takes anchor least bytes result
  found_takes result (unread u e) =
      absurd (never_unread old new max_archive bytes tells.told (λ rose. quiet_not_rose old.faults new.faults tells.quiet rose) short u)
  found_takes result (read given w t) = inr (subst (λ b. Takes anchor least b result) (same_whole old new max_archive bytes given tells.told w) t)
  found_takes result (wanting e) = inl e

  module _ (chain : TrustChain) (holds : Holds anchor bytes chain) where
    held : held_in anchor bytes ≡ Ok chain
    held = chain_complete anchor.crypto anchor.root anchor.now anchor.config.max_delegations trust_path bytes chain holds

    same_chain : (other : TrustChain) → HoldsTrusted anchor bytes other → other ≡ chain
    same_chain other h = ok_same other chain (sym h.held ∙ held)

    -- a chain that is found is this one, and recent
    pub found_recent : (other : TrustChain) → Finds anchor least old new (Ok other) → (other ≡ chain) × IsRecent least chain
    found_recent other f = by_found (found_takes (Ok other) f)
      where
        by_found : (◌≡◌ {A = Result TrustChain CheckFault} (Ok other) (Err fault.NoMemory)) ⊎ Takes anchor least bytes (Ok other) → (other ≡ chain) × IsRecent least chain
        by_found (inl e) = no_both other fault.NoMemory e
        by_found (inr (h, r)) = let same = same_chain other h in (same, subst (λ (c : TrustChain). IsRecent least c) same r)

    -- what is said of a fault is that this chain is older
    pub found_older : (why : CheckFault) (said : Answer) → Finds anchor least old new (Err why) → fault_answer why ≡ Some said → (said ≡ rollback_answer) × IsOlder least chain
    found_older why said f a = by_found why (found_takes (Err why) f) a
      where
        by_found : (e : CheckFault) → (◌≡◌ {A = Result TrustChain CheckFault} (Err e) (Err fault.NoMemory)) ⊎ Takes anchor least bytes (Err e) → fault_answer e ≡ Some said
            → (said ≡ rollback_answer) × IsOlder least chain
        by_found (fault.Archive e) (inl w) h = cc
        by_found (fault.Archive e) (inr (d, y)) h = no_both chain e (sym held ∙ d)
        by_found fault.Rollback (inl w) h = cc
        by_found fault.Rollback (inr (other, t, o)) h =
            (sym (some_same rollback_answer said h), subst (λ (c : TrustChain). IsOlder least c) (same_chain other t) o)
        by_found fault.Unread (inl w) h = cc
        by_found fault.Unread (inr w) h = absurd w
        by_found fault.NoMemory w h = cc

-- ---- a favoured run

module _ (command : Command) (before after : Environment) (out out' : Watched (List ℕ)) (chain : TrustChain) (f : Favoured command before after chain) where
  abbrev anchor : Anchor
  anchor = anchor_of f.anchored (now_of f.layout.places command.clock)

  abbrev Recent : Status → Type 0
  Recent ended = OrFails out out' ended (TrustsWhole f out out' ended)

  abbrev Older : Status → Type 0
  Older ended = OrFails out out' ended (RefusesOlder before after out out' ended)

  abbrev Both : Answer → Type 0
  Both said = (IsRecent f.layout.least chain → Recent said.status) × (IsOlder f.layout.least chain → Older said.status)

  begun_so : (layout : CheckLayout) (anchored : Anchored) (result : Result Answer NoMemory) → layout ≡ f.layout → anchored ≡ f.anchored
      → Checks (anchor_of anchored (now_of layout.places command.clock)) layout.least layout.trusted_root before.outside after.outside result
      → Checks anchor f.layout.least f.layout.trusted_root before.outside after.outside result
  begun_so layout anchored result l a c =
      subst (λ (x : Anchored). Checks (anchor_of x (now_of f.layout.places command.clock)) f.layout.least f.layout.trusted_root before.outside after.outside result) a
      (subst (λ (x : CheckLayout). Checks (anchor_of anchored (now_of x.places command.clock)) x.least x.trusted_root before.outside after.outside result) l c)

  as_said : (a b : Answer) → a ≡ b → (TakesAll out out' a.text → Both a) → TakesAll out out' b.text → Both b
  as_said a b e g = subst (λ (x : Answer). TakesAll out out' x.text → Both x) e g

  checked_so : (said : Answer) → Checks anchor f.layout.least f.layout.trusted_root before.outside after.outside (Ok said) → TakesAll out out' said.text → Both said
  checked_so said (trusts other text found t d eq) =
      let so = found_recent anchor f.layout.least before.outside.archive after.outside.archive f.bytes f.archive f.short chain f.holds other found in
      as_said (answer status.Accepted text) said (sym (ok_same said (answer status.Accepted text) eq))
      (λ w. (
        (λ r. inr (inr (record {
          delivered = subst (λ (c : TrustChain). Delivers f.layout.trusted_root c.file before.outside.shelf after.outside.shelf) so.0 d;
          text = text;
          lines = subst (λ (c : TrustChain). chain_text (codes "trusted") c ≡ Ok text) so.0 t;
          written = w;
          accepted = refl;
        }))),
        (λ o. absurd (never_both f.layout.least chain so.1 o)),
      ))
  checked_so said (withholds other found u eq) =
      λ w. absurd (quiet_not_rose before.outside.shelf.faults after.outside.shelf.faults f.shelf (u.fails.failed refl))
  checked_so said (declines why other found s a eq) =
      let so = found_older anchor f.layout.least before.outside.archive after.outside.archive f.bytes f.archive f.short chain f.holds why other found a in
      as_said rollback_answer said (sym so.0 ∙ sym (ok_same said other eq))
      (λ w. (
        (λ r. absurd (never_both f.layout.least chain r so.1)),
        (λ o. inr (inr (record { untouched = s; written = w; refused = refl }))),
      ))
  checked_so said (wants e t eq) = no_both said e eq

  said_so : (said : Answer) → Says command before after (Ok said) → TakesAll out out' said.text → Both said
  said_so said (unstarted e s o eq) = no_both said e eq
  said_so said (stopped line s o eq) =
      absurd (never_stopped (check_layout_of command.words) anchored_of before.inputs after.inputs f.layout f.held f.anchored f.worded f.inputs.told
      (λ rose. quiet_not_rose before.inputs.faults after.inputs.faults f.inputs.quiet rose) f.anchored_is line s)
  said_so said (begun layout anchored b c) =
      let same = begun_same (check_layout_of command.words) anchored_of before.inputs after.inputs f.layout f.held f.anchored f.worded f.inputs.told
      (λ rose. quiet_not_rose before.inputs.faults after.inputs.faults f.inputs.quiet rose) f.anchored_is layout anchored b in
      checked_so said (begun_so layout anchored (Ok said) same.0 same.1 c)

pub check_completes : (command : Command) (before after : Environment) (out out' : Watched (List ℕ)) (said : Result Answer NoMemory) (ended : Status)
    → Says command before after said → EndsText said out out' ended → Completes command before after out out' ended
check_completes command before after out out' said ended s e =
    ends_so (Says command before after) (Completes command before after out out') (λ (a : Answer). a.status) (λ (a : Answer). a.text) said out out' ended s
    (λ same chain f. ((λ r. inl refl), (λ o. inl refl))) (λ rose chain f. ((λ r. inr (inl (refl, rose))), (λ o. inr (inl (refl, rose)))))
    (λ it s w chain f. said_so command before after out out' chain f it s w) e
