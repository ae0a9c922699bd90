-- The verdict over told digests, by the steps that lead to it.
use Rattle.std.proofs.Common.{◌≡◌, ℕ, List, Result, Ok, Err, IfOk, IfErr, ap, ◌∙◌}
use Rattle.foundation.specs.Steps.{◌>>=◌}
use Rattle.sigstore_types.specs.declared.bundle.Bundle.{Bundle}
use Rattle.sigstore_types.specs.declared.trusted_root.TrustedRoot.{TrustedRoot}
use Rattle.sigstore_judgement.specs.declared.error.Error.{Error}
use Rattle.sigstore_judgement.specs.declared.rules.JudgedByRule.{JudgedByRule}
use Rattle.sigstore_judgement.specs.declared.rules.ReadArtifact.{ReadArtifact}
use Rattle.sigstore_judgement.specs.declared.rules.RulesError.{RulesError}
use Rattle.sigstore_judgement.specs.declared.rules.RulesError.TheVariants.{Shared, Each}
use Rattle.sigstore_judgement.specs.declared.trust.Material.{Material}
use Rattle.sigstore_judgement.specs.Grounds.{Grounds}
use Rattle.sigstore_judgement.specs.Rules.{answers_by, RefusesSo}
use Rattle.sigstore_judgement.specs.Trust.{material_of}
use Rattle.sigstore_judgement.specs.Under.{trust_of, bundle_of}
use Rattle.sigstore_judgement.specs.UnderRules.{or_shared, or_each}
use Rattle.sigstore_verify.specs.ByDigests.{ToldAsked, told_verdict_by, TellsVerdict}

module _ (asked : ToldAsked) (file : List ℕ) (artifact : ReadArtifact) where
  abbrev grounds_over : Material → Grounds
  grounds_over material = record { crypto = asked.crypto; material = material; now = asked.now }

  abbrev after_bundle : Material → Bundle → Result JudgedByRule RulesError
  after_bundle material bundle = or_each (answers_by (grounds_over material) bundle artifact asked.rules)

  abbrev after_material : Material → Result JudgedByRule RulesError
  after_material material = or_shared (bundle_of asked.bundle) >>= after_bundle material

  abbrev after_trust : TrustedRoot → Result JudgedByRule RulesError
  after_trust trust = or_shared (material_of trust) >>= after_material

  pub told_untrusted : (e : Error) → trust_of file ≡ Err e → told_verdict_by asked file artifact ≡ Err (Shared e)
  unfolding told_verdict_by
  told_untrusted e h = ap (λ r. or_shared r >>= after_trust) h

  module _ (trust : TrustedRoot) (trusted : trust_of file ≡ Ok trust) where
    pub told_unusable : (e : Error) → material_of trust ≡ Err e → told_verdict_by asked file artifact ≡ Err (Shared e)
    unfolding told_verdict_by
    told_unusable e h = ap (λ r. or_shared r >>= after_trust) trusted ∙ ap (λ r. or_shared r >>= after_material) h

    module _ (material : Material) (usable : material_of trust ≡ Ok material) where
      pub told_unread : (e : Error) → bundle_of asked.bundle ≡ Err e → told_verdict_by asked file artifact ≡ Err (Shared e)
      unfolding told_verdict_by
      told_unread e h =
          ap (λ r. or_shared r >>= after_trust) trusted ∙ ap (λ r. or_shared r >>= after_material) usable
          ∙ ap (λ r. or_shared r >>= after_bundle material) h

      told_answers : (bundle : Bundle) → bundle_of asked.bundle ≡ Ok bundle → told_verdict_by asked file artifact ≡ after_bundle material bundle
      unfolding told_verdict_by
      told_answers bundle h =
          ap (λ r. or_shared r >>= after_trust) trusted ∙ ap (λ r. or_shared r >>= after_material) usable
          ∙ ap (λ r. or_shared r >>= after_bundle material) h

      pub told_judged : (bundle : Bundle) → bundle_of asked.bundle ≡ Ok bundle → (result : Result JudgedByRule RulesError)
          → IfOk result (λ accepted. answers_by (grounds_over material) bundle artifact asked.rules ≡ Ok (accepted.rule, accepted.judged))
          → IfErr result (RefusesSo (answers_by (grounds_over material) bundle artifact asked.rules))
          → TellsVerdict (told_verdict_by asked file artifact) result
      told_judged bundle h (Ok accepted) ok err = told_answers bundle h ∙ ap or_each ok
      told_judged bundle h (Err (Shared e)) ok err = λ n. absurd (n err)
      told_judged bundle h (Err (Each refusals)) ok err = (told_answers bundle h ∙ ap or_each err.0, err.1)
