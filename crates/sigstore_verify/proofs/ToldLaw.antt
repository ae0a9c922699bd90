-- The verdict over digests of bytes is the one over the bytes.
use Rattle.std.proofs.Common.{◌≡◌, ℕ, List, [], ◌∷◌, Result, Ok, Err, true, refl, sym, ap, subst}
use Rattle.std.specs.List.{AllByRecursion, list_any}
use Rattle.foundation.specs.Steps.{◌>>=◌}
use Rattle.sigstore_types_parts.specs.HashAlgorithm.{same_algorithm}
use Rattle.sigstore_types_parts.specs.declared.hash_algorithm.HashAlgorithm.{HashAlgorithm}
use Rattle.sigstore_types.specs.declared.bundle.Bundle.{Bundle}
use Rattle.sigstore_types.specs.declared.trusted_root.TrustedRoot.{TrustedRoot}
use Rattle.sigstore_keys.specs.Digest.{digests_by}
use Rattle.sigstore_policy.specs.Policy.{Meaning}
use Rattle.sigstore_judgement.specs.declared.error.Error.{Error}
use Rattle.sigstore_judgement.specs.declared.rules.JudgedByRule.{JudgedByRule}
use Rattle.sigstore_judgement.specs.declared.rules.ReadArtifact.TheVariants.{Digests}
use Rattle.sigstore_judgement.specs.declared.rules.RulesError.{RulesError}
use Rattle.sigstore_judgement.specs.declared.trust.Material.{Material}
use Rattle.sigstore_judgement.specs.Artifact.{read_kind}
use Rattle.sigstore_judgement.specs.Judged.{Ready, prepared_of, needed_in}
use Rattle.sigstore_judgement.specs.Rules.{Whole, answers_of, answers_by}
use Rattle.sigstore_judgement.specs.Trust.{material_of}
use Rattle.sigstore_judgement.specs.Under.{trust_of, bundle_of}
use Rattle.sigstore_judgement.specs.UnderRules.{RulesAsked, grounds_of, or_shared, or_each, rules_verdict_by}
use Rattle.sigstore_judgement.proofs.Needed.{IsCovered, AreCovered}
use Rattle.sigstore_judgement.proofs.RulesLaw.{digests_cover}
use Rattle.sigstore_verify.specs.ByDigests.{told_verdict_by, TellsNeeded, told_asked_of, DigestsStandForBytes}

covers_one : (told : List HashAlgorithm) (bundle : Bundle) (policy : Meaning) → TellsNeeded told bundle policy → IsCovered bundle told policy
covers_one told bundle policy tells ready p a h = tells a (subst (λ r. list_any (same_algorithm a) (needed_in r) ≡ true) (sym p) h)

covers_each : (told : List HashAlgorithm) (bundle : Bundle) (rules : List Meaning) → AllByRecursion (TellsNeeded told bundle) rules → AreCovered bundle told rules
covers_each told bundle [] tells = tt
covers_each told bundle (policy ∷ rules) tells = (covers_one told bundle policy tells.0, covers_each told bundle rules tells.1)

pub stand_for_bytes : DigestsStandForBytes
unfolding told_verdict_by rules_verdict_by
stand_for_bytes asked file bytes told tells = by_trust (trust_of file)
  where
    by_bundle : (material : Material) (r : Result Bundle Error) → bundle_of asked.bundle ≡ r
        → (or_shared r >>= λ bundle. or_each (answers_by (grounds_of asked material) bundle (Digests (digests_by told bytes)) asked.rules))
        ≡ (or_shared r >>= λ bundle. or_each (answers_of (grounds_of asked material) bundle (Whole bytes) asked.rules))
    by_bundle material (Ok bundle) h =
        ap or_each (digests_cover (grounds_of asked material) bundle bytes told asked.rules (covers_each told bundle asked.rules (tells bundle h)))
    by_bundle material (Err e) h = refl

    by_material : (r : Result Material Error)
        → (or_shared r >>= λ material. or_shared (bundle_of asked.bundle)
        >>= λ bundle. or_each (answers_by (grounds_of asked material) bundle (Digests (digests_by told bytes)) asked.rules))
        ≡ (or_shared r >>= λ material. or_shared (bundle_of asked.bundle)
        >>= λ bundle. or_each (answers_of (grounds_of asked material) bundle (Whole bytes) asked.rules))
    by_material (Ok material) = by_bundle material (bundle_of asked.bundle) refl
    by_material (Err e) = refl

    by_trust : (r : Result TrustedRoot Error)
        → (or_shared r >>= λ trust. or_shared (material_of trust) >>= λ material. or_shared (bundle_of asked.bundle)
        >>= λ bundle. or_each (answers_by (grounds_of asked material) bundle (Digests (digests_by told bytes)) asked.rules))
        ≡ (or_shared r >>= λ trust. or_shared (material_of trust) >>= λ material. or_shared (bundle_of asked.bundle)
        >>= λ bundle. or_each (answers_of (grounds_of asked material) bundle (Whole bytes) asked.rules))
    by_trust (Ok trust) = by_material (material_of trust)
    by_trust (Err e) = refl
