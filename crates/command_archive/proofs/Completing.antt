-- Where nothing outside fails, `archive` writes a chain that is offered.
use Rattle.std.proofs.Common.{◌≡◌, ◌⊎◌, inl, inr, ℕ, List, Result, Ok, Err, sym, ap, ◌∙◌, subst}
use Rattle.foundation.specs.Results.{ok_same, err_same, no_both}
use Rattle.sigstore_tuf_text.specs.declared.error.Error.{Error as TufError}
use Rattle.sigstore_tuf_text.specs.declared.error.Error.TheVariants as tuf
use Rattle.sigstore_tuf_rules.specs.declared.chain.TrustChain.{TrustChain}
use Rattle.sigstore_verify.specs.Inputs.{Anchor, Places}
use Rattle.sigstore_verify.specs.Complete.{OffersChain, StaysWarm}
use Rattle.trust_archive.specs.Spelling.{spelling_of}
use Rattle.command_files.specs.Gather.{anchored_of}
use Rattle.command_files.specs.declared.gather.Anchored.{Anchored}
use Rattle.command_files.specs.declared.layout.Layout.{Layout}
use Rattle.command_files.specs.Starting.{Command, now_of, unstarted, stopped, begun}
use Rattle.command_files.proofs.Starts.{quiet_not_rose, never_stopped, begun_same}
use Rattle.command_verify.specs.Run.{anchor_of}
use Rattle.command_archive.specs.declared.output.Output.{Output}
use Rattle.command_archive.specs.declared.output.Output.TheVariants.{Archive}
use Rattle.command_archive.specs.Run.{Environment, spelled, Walks, walk_refused, walked_to, Says}
use Rattle.command_archive.specs.Layout.{archive_layout_of}
use Rattle.command_archive.specs.Complete.{Favoured, anchor_in}

-- what a favoured run says, it says as a walk from these inputs
module _ (command : Command) (before after : Environment) (f : Favoured command before after) (said : Output) where
  begun_so : (layout : Layout) (anchored : Anchored) → layout ≡ f.layout → anchored ≡ f.anchored
      → Walks (anchor_of anchored (now_of layout command.clock)) before.outside after.outside said → Walks (anchor_in f) before.outside after.outside said
  begun_so layout anchored l a w =
      subst (λ (x : Anchored). Walks (anchor_of x (now_of f.layout command.clock)) before.outside after.outside said) a
      (subst (λ (x : Layout). Walks (anchor_of anchored (now_of x command.clock)) before.outside after.outside said) l w)

  pub walks_so : Says command before after (Ok said) → Walks (anchor_in f) before.outside after.outside said
  walks_so (unstarted e s o eq) = no_both said e eq
  walks_so (stopped line s o eq) =
      absurd (never_stopped (archive_layout_of command.words) anchored_of before.inputs after.inputs f.layout f.held f.anchored f.worded f.inputs.told
      (λ rose. quiet_not_rose before.inputs.faults after.inputs.faults f.inputs.quiet rose) f.anchored_is line s)
  walks_so (begun layout anchored b w) =
      let same = begun_same (archive_layout_of command.words) anchored_of before.inputs after.inputs f.layout f.held f.anchored f.worded f.inputs.told
      (λ rose. quiet_not_rose before.inputs.faults after.inputs.faults f.inputs.quiet rose) f.anchored_is layout anchored b in
      begun_so layout anchored same.0 same.1 w

module _ (anchor : Anchor) (before after : Places) (chain : TrustChain) (bytes : List ℕ) (spells : spelling_of chain ≡ Ok bytes)
    (offer : OffersChain anchor before after chain) where
  abbrev Written : Output → Type 0
  Written said = (said ≡ Archive bytes) × StaysWarm after.store offer

  pub archive_writes : (said : Output) → Walks anchor before after said → Written said
  archive_writes said (walk_refused e n p s) = by_complete (p.complete chain offer)
    where
      by_complete : (◌≡◌ {A = Result TrustChain TufError} (Err e) (Err tuf.NoMemory)) ⊎ ((◌≡◌ {A = Result TrustChain TufError} (Err e) (Ok chain)) × StaysWarm after.store offer) → Written said
      by_complete (inl h) = absurd (n (err_same e tuf.NoMemory h))
      by_complete (inr (h, w)) = no_both chain e (sym h)
  archive_writes said (walked_to found p s) = by_complete (p.complete chain offer)
    where
      by_complete : (◌≡◌ {A = Result TrustChain TufError} (Ok found) (Err tuf.NoMemory)) ⊎ ((◌≡◌ {A = Result TrustChain TufError} (Ok found) (Ok chain)) × StaysWarm after.store offer) → Written said
      by_complete (inl h) = no_both found tuf.NoMemory h
      by_complete (inr (h, w)) = (s ∙ ap (λ (c : TrustChain). spelled (spelling_of c)) (ok_same found chain h) ∙ ap spelled spells, w)
