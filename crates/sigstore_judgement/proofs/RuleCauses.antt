-- Each rule's refusal has its cause.
use Rattle.std.proofs.Common.{◌≡◌, inl, ℕ, List, Result, Err, refl, sym, subst}
use Rattle.std.specs.List.{AllZip}
use Rattle.foundation.specs.Results.{err_same, refused_at}
use Rattle.foundation.specs.Watched.{Watched}
use Rattle.sigstore_types.specs.declared.bundle.Bundle.{Bundle}
use Rattle.sigstore_keys.specs.declared.reader.ReadError.{ReadError}
use Rattle.sigstore_policy.specs.Policy.{Meaning}
use Rattle.sigstore_judgement.specs.declared.error.Error.{Error}
use Rattle.sigstore_judgement.specs.declared.error.Error.TheVariants as verify
use Rattle.sigstore_judgement.specs.declared.rules.JudgedByRule.{JudgedByRule}
use Rattle.sigstore_judgement.specs.declared.rules.RulesError.{RulesError}
use Rattle.sigstore_judgement.specs.declared.rules.RulesError.TheVariants.{Shared, Each}
use Rattle.sigstore_judgement.specs.declared.trust.Material.{Material}
use Rattle.sigstore_judgement.specs.Artifact.{Read, read_kind}
use Rattle.sigstore_judgement.specs.Cause.{IsRead, IsKept, JudgeCause}
use Rattle.sigstore_judgement.specs.Judged.{Ready, prepared_of, judged_of}
use Rattle.sigstore_judgement.specs.Promise.{ReadWhole, ReadCause}
use Rattle.sigstore_judgement.specs.Rules.{Whole, Unread, answer_of, NoneWants, RulesCause, before_reading, after_reading, in_reading}
use Rattle.sigstore_judgement.specs.Under as one
use Rattle.sigstore_judgement.specs.Under.{bundle_fault, trust_fault, terms_of}
use Rattle.sigstore_judgement.specs.UnderRules.{RulesAsked, asked_under, grounds_of, JudgesByRules, trust_refused, verifier_refused, bundle_refused, judged}
use Rattle.sigstore_types.specs.Bundle.{bundle_of_bytes}
use Rattle.sigstore_types.specs.TrustedRoot.{trusted_root_of_bytes}
use Rattle.sigstore_judgement.proofs.FirstLaw.{all_zip, all_refuse}
use Rattle.sigstore_judgement.proofs.JudgeCauses.{read_of, unprepared, unjudged, judge_refused}

module _ (asked : RulesAsked) (file : List ℕ) (source source' : Watched (List ℕ)) where
  abbrev Caused : Meaning → Error → Type 0
  Caused policy e = JudgeCause (asked_under asked policy) file source source' e

  abbrev pub AreCaused : List Meaning → List Error → Type 0
  AreCaused rules refusals = AllZip Caused rules refusals

  module _ (material : Material) (kept : IsKept file material) (reading : Bundle) (read : IsRead asked.bundle reading) where
    over_bytes : (bytes : List ℕ) → ReadWhole source source' asked.max bytes → (policy : Meaning) (e : Error)
        → answer_of (grounds_of asked material) reading (Whole bytes) policy ≡ Err e → Caused policy e
    over_bytes bytes whole policy e h =
        refused_at (judged_of (terms_of (asked_under asked policy) material) reading (Read bytes)) _ e h
        (unjudged (asked_under asked policy) file source source' reading read bytes whole material kept e) (λ report p k. cc)

    over_fault : (fault : ReadError) → ReadCause source source' asked.max fault → (policy : Meaning) (e : Error)
        → answer_of (grounds_of asked material) reading (Unread fault) policy ≡ Err e → Caused policy e
    over_fault fault cause policy e h =
        refused_at (prepared_of read_kind policy reading) (λ (ready : Ready). Err (verify.ArtifactRead fault)) e h
        (unprepared (asked_under asked policy) file source source' reading read e)
        (λ ready p k. subst (Caused policy) (err_same (verify.ArtifactRead fault) e k) (inl cause))

    by_cause : (refusals : List Error) → RulesCause (grounds_of asked material) asked.rules reading source source' asked.max refusals
        → AreCaused asked.rules refusals
    by_cause refusals (before_reading unread u) =
        all_zip (λ policy e p. unprepared (asked_under asked policy) file source source' reading read e p) asked.rules refusals u
    by_cause refusals (after_reading bytes whole h) =
        all_zip (over_bytes bytes whole) asked.rules refusals (all_refuse (answer_of (grounds_of asked material) reading (Whole bytes)) 1 asked.rules refusals h)
    by_cause refusals (in_reading fault cause h) =
        all_zip (over_fault fault cause) asked.rules refusals (all_refuse (answer_of (grounds_of asked material) reading (Unread fault)) 1 asked.rules refusals h)

  -- each rule's refusal has its cause
  pub rules_refused : (refusals : List Error) → JudgesByRules asked file source source' (Err (Each refusals)) → NoneWants refusals × AreCaused asked.rules refusals
  rules_refused refusals (trust_refused d h s n) = cc
  rules_refused refusals (verifier_refused trust d t h s n) = cc
  rules_refused refusals (bundle_refused trust material d t u h s n) = cc
  rules_refused refusals (judged trust material reading t u b v) = (
    v.refused.1,
    by_cause material (record { trust = trust; trust_read = read_of trust_fault (trusted_root_of_bytes file) trust t; usable = u })
        reading (read_of bundle_fault (bundle_of_bytes asked.bundle) reading b) refusals v.refused.0,
  )

  shared_same : (d e : Error) → ◌≡◌ {A = Result JudgedByRule RulesError} (Err (Shared e)) (Err (Shared d)) → d ≡ e
  shared_same d e h = cc

  -- and that of what all share has its cause, whatever the policy
  pub shared_refused : (e : Error) → JudgesByRules asked file source source' (Err (Shared e)) → (policy : Meaning) → Caused policy e
  shared_refused e (trust_refused d h s n) policy =
      subst (Caused policy) (shared_same d e n) (judge_refused (asked_under asked policy) file source source' d (one.trust_refused d h s refl))
  shared_refused e (verifier_refused trust d t h s n) policy =
      subst (Caused policy) (shared_same d e n) (judge_refused (asked_under asked policy) file source source' d (one.verifier_refused trust d t h s refl))
  shared_refused e (bundle_refused trust material d t u h s n) policy =
      subst (Caused policy) (shared_same d e n) (judge_refused (asked_under asked policy) file source source' d (one.bundle_refused trust material d t u h s refl))
  shared_refused e (judged trust material reading t u b v) policy = subst (Caused policy) (sym v.refused) (inl tt)
