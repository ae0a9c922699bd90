-- The verdicts on the bundles of a list, and what is had of the artifact.
use Rattle.std.proofs.Common.{◌≡◌, ℕ, List, [], ◌∷◌, Option, Some, None, Result, Ok, refl, sym, ap, ◌∙◌}
use Rattle.foundation.specs.Results.{step_ok}
use Rattle.foundation.specs.Steps.{◌>>=◌}
use Rattle.foundation.specs.Watched.{Watched}
use Rattle.sigstore_types.specs.declared.bundle.Bundle.{Bundle}
use Rattle.sigstore_types.specs.declared.trusted_root.TrustedRoot.{TrustedRoot}
use Rattle.sigstore_keys.specs.Digest.{digests_by}
use Rattle.sigstore_judgement.specs.declared.error.Error.{Error}
use Rattle.sigstore_judgement.specs.declared.rules.JudgedByRule.{JudgedByRule}
use Rattle.sigstore_judgement.specs.declared.rules.ReadArtifact.{ReadArtifact}
use Rattle.sigstore_judgement.specs.declared.rules.ReadArtifact.TheVariants.{Digests, Unread}
use Rattle.sigstore_judgement.specs.declared.rules.RulesError.{RulesError}
use Rattle.sigstore_judgement.specs.declared.trust.Material.{Material}
use Rattle.sigstore_judgement.specs.Grounds.{Grounds}
use Rattle.sigstore_judgement.specs.Rules.{answers_by}
use Rattle.sigstore_judgement.specs.Trust.{material_of}
use Rattle.sigstore_judgement.specs.Under.{trust_of, bundle_of}
use Rattle.sigstore_judgement.specs.UnderRules.{or_shared, or_each}
use Rattle.sigstore_judgement.proofs.Completing.{read_whole, never_unread}
use Rattle.sigstore_verify.specs.ByDigests.{told_verdict_by}
use Rattle.release_gate.specs.Gate.{kept_of}
use Rattle.command_files.proofs.Starts.{quiet_not_rose}
use Rattle.command_verify.specs.Run.{max_artifact}
use Rattle.command_ways.specs.Complete.{TellsSubject}
use Rattle.command_ways.specs.Digests.{Digest}
use Rattle.command_bundles.specs.declared.lines.ListedBundle.{ListedBundle}
use Rattle.command_bundles.specs.Complete.{had_over}
use Rattle.command_bundles.specs.Judging.{Search, this_or, first_of, verdict_under, hashed, IsHad, JudgesOver, ListInputs, verdict_of, JudgesList}

-- ---- under what is kept of a trusted root

abbrev Verdict : Type 0
Verdict = Result JudgedByRule RulesError

module _ (given : ListInputs) (file : List ℕ) (material : Material) (usable : kept_of file ≡ Ok material) (had : ReadArtifact) where
  abbrev grounds : Grounds
  grounds = record { crypto = given.anchor.crypto; material = material; now = given.anchor.now }

  module _ (text : List ℕ) where
    abbrev after_use : Material → Verdict
    after_use kept =
        or_shared (bundle_of text) >>= λ (bundle : Bundle). or_each (answers_by (record { crypto = given.anchor.crypto; material = kept; now = given.anchor.now }) bundle had given.rules)

    abbrev after_trust : TrustedRoot → Verdict
    after_trust trust = or_shared (material_of trust) >>= after_use

    kept_verdict : verdict_of given file had text ≡ verdict_under grounds given.rules had text
    unfolding told_verdict_by
    kept_verdict =
        let s = step_ok (trust_of file) material_of material usable in
        ap (λ (r : Result TrustedRoot Error). or_shared r >>= after_trust) s.1
        ∙ ap (λ (r : Result Material Error). or_shared r >>= after_use) s.2

  same_first : (bundles : List ListedBundle) → first_of (verdict_of given file had) bundles ≡ first_of (verdict_under grounds given.rules had) bundles
  same_first [] = refl
  same_first (bundle ∷ bundles) =
      ap (λ (v : Verdict). this_or bundle v (first_of (verdict_of given file had) bundles)) (kept_verdict bundle.text)
      ∙ ap (λ (s : Search). this_or bundle (verdict_under grounds given.rules had bundle.text) s) (same_first bundles)

pub judged_list : (given : ListInputs) (file : List ℕ) (material : Material) (told : Option (List Digest)) (old new : Watched (List ℕ)) (search : Search)
    → kept_of file ≡ Ok material
    → JudgesOver (record { crypto = given.anchor.crypto; material = material; now = given.anchor.now }) given.rules given.bundles told old new search
    → JudgesList given file told old new search
judged_list given file material told old new search usable j = record {
  material = material;
  usable = usable;
  had = j.had;
  taken = j.taken;
  first = same_first given file material usable j.had given.bundles ∙ j.first;
}

-- ---- what is had of an artifact whose source tells its bytes

module _ (old new : Watched (List ℕ)) (bytes : List ℕ) where
  had_is : (told : Option (List Digest)) (had : ReadArtifact) → TellsSubject told old new bytes → IsHad told old new had → had ≡ had_over told bytes
  had_is None (Digests taken) (tells, short) (read, whole, is) =
      ap (λ (d : List Digest). Digests d) (is ∙ ap (digests_by hashed) (read_whole old new max_artifact bytes read tells.told whole))
  had_is None (Unread fault) (tells, short) cause =
      absurd (never_unread old new max_artifact bytes fault tells.told (λ rose. quiet_not_rose old.faults new.faults tells.quiet rose) short cause)
  had_is (Some digests) had s h = h.1

  pub search_is : (given : ListInputs) (file : List ℕ) (told : Option (List Digest)) (search : Search) → TellsSubject told old new bytes
      → JudgesList given file told old new search → first_of (verdict_of given file (had_over told bytes)) given.bundles ≡ search
  search_is given file told search s j =
      ap (λ (had : ReadArtifact). first_of (verdict_of given file had) given.bundles) (sym (had_is told j.had s j.taken)) ∙ j.first
