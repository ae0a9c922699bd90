-- Over a source that tells its bytes within the limit and doesn't fail, the judgement under rules is the verdict, unless memory is wanting;
-- and under one rule that is the verdict under its policy alone.
use Rattle.std.proofs.Common.{◌≡◌, ◌≢◌, ◌⊎◌, inl, inr, ℕ, ◌≤◌, List, [], ◌∷◌, length, Some, map, Result, Ok, Err, refl, sym, ap, ◌∙◌, subst}
use Rattle.foundation.specs.Steps.{◌>>=◌}
use Rattle.foundation.specs.Watched.{Watched, Rose}
use Rattle.sigstore_types.specs.declared.bundle.Bundle.{Bundle}
use Rattle.sigstore_types.specs.declared.trusted_root.TrustedRoot.{TrustedRoot}
use Rattle.sigstore_keys.specs.Digest.{digests_by}
use Rattle.sigstore_policy.specs.Policy.{Meaning}
use Rattle.sigstore_judgement.specs.declared.error.Error.{Error}
use Rattle.sigstore_judgement.specs.declared.error.Error.TheVariants as verify
use Rattle.sigstore_judgement.specs.declared.report.JudgedBundle.{JudgedBundle}
use Rattle.sigstore_judgement.specs.declared.report.VerificationResult.{VerificationResult}
use Rattle.sigstore_judgement.specs.declared.rules.JudgedByRule.{JudgedByRule}
use Rattle.sigstore_judgement.specs.declared.rules.RulesError.{RulesError}
use Rattle.sigstore_judgement.specs.declared.rules.RulesError.TheVariants.{Shared, Each}
use Rattle.sigstore_judgement.specs.declared.trust.Material.{Material}
use Rattle.sigstore_judgement.specs.Artifact.{Read, read_kind}
use Rattle.sigstore_judgement.specs.Judged.{prepared_of, judged_of, needed_by}
use Rattle.sigstore_judgement.specs.Promise.{ReadWhole}
use Rattle.sigstore_judgement.specs.Rules.{Had, Whole, Unread, answer_of, first_from, answers_of, RulesCause, before_reading, after_reading, in_reading, VerifiesByRules}
use Rattle.sigstore_judgement.specs.Trust.{material_of}
use Rattle.sigstore_judgement.specs.Under.{trust_of, bundle_of, terms_of, verdict_by}
use Rattle.sigstore_judgement.specs.UnderRules.{RulesAsked, asked_under, grounds_of, JudgesByRules, trust_refused, verifier_refused, bundle_refused, judged}
use Rattle.sigstore_judgement.specs.UnderRules.{or_shared, or_each, rules_verdict_by, IsAlone, OneRule}
use Rattle.sigstore_judgement.proofs.Completing.{read_whole, never_unread, step_to, step_err}
use Rattle.sigstore_judgement.proofs.FirstLaw.{all_zip, each_refuses}
use Rattle.sigstore_judgement.proofs.Needed.{AreUnprepared}
use Rattle.sigstore_judgement.proofs.Stages.{unready}
use Rattle.sigstore_judgement.proofs.Wanting.{is_want}

-- ---- what follows each step of the verdict

abbrev after_bundle : RulesAsked → List ℕ → Material → Bundle → Result JudgedByRule RulesError
after_bundle asked bytes material bundle = or_each (answers_of (grounds_of asked material) bundle (Whole bytes) asked.rules)

abbrev after_use : RulesAsked → List ℕ → Material → Result JudgedByRule RulesError
after_use asked bytes material = or_shared (bundle_of asked.bundle) >>= after_bundle asked bytes material

abbrev after_trust : RulesAsked → List ℕ → TrustedRoot → Result JudgedByRule RulesError
after_trust asked bytes trust = or_shared (material_of trust) >>= after_use asked bytes

module _ (asked : RulesAsked) (source source' : Watched (List ℕ)) (file bytes : List ℕ) (told : source.told ≡ Some bytes) (quiet : Rose source.faults source'.faults → ⊥)
    (short : length bytes ≤ asked.max) where
  abbrev pub Verdict : Result JudgedByRule RulesError → Type 0
  Verdict result = (result ≡ Err (Shared verify.NoMemory)) ⊎ (result ≡ rules_verdict_by asked file bytes)

  refused_so : (e : Error) (result : Result JudgedByRule RulesError) → result ≡ Err (Shared e)
      → (e ≢ verify.NoMemory → rules_verdict_by asked file bytes ≡ Err (Shared e)) → Verdict result
  refused_so e result is h = by_want (is_want e)
    where
      by_want : (e ≡ verify.NoMemory) ⊎ (e ≢ verify.NoMemory) → Verdict result
      by_want (inl w) = inl (is ∙ ap (λ d. Err (Shared d)) w)
      by_want (inr w) = inr (is ∙ sym (h w))

  trust_err : (e : Error) → trust_of file ≡ Err e → rules_verdict_by asked file bytes ≡ Err (Shared e)
  unfolding rules_verdict_by
  trust_err e h = step_err (or_shared (trust_of file)) (after_trust asked bytes) (Shared e) (ap or_shared h)

  usable_err : (trust : TrustedRoot) (e : Error) → trust_of file ≡ Ok trust → material_of trust ≡ Err e → rules_verdict_by asked file bytes ≡ Err (Shared e)
  unfolding rules_verdict_by
  usable_err trust e t h =
      step_to (or_shared (trust_of file)) (after_trust asked bytes) trust (ap or_shared t)
      ∙ step_err (or_shared (material_of trust)) (after_use asked bytes) (Shared e) (ap or_shared h)

  bundle_err : (trust : TrustedRoot) (material : Material) (e : Error) → trust_of file ≡ Ok trust → material_of trust ≡ Ok material
      → bundle_of asked.bundle ≡ Err e → rules_verdict_by asked file bytes ≡ Err (Shared e)
  unfolding rules_verdict_by
  bundle_err trust material e t u h =
      step_to (or_shared (trust_of file)) (after_trust asked bytes) trust (ap or_shared t)
      ∙ step_to (or_shared (material_of trust)) (after_use asked bytes) material (ap or_shared u)
      ∙ step_err (or_shared (bundle_of asked.bundle)) (after_bundle asked bytes material) (Shared e) (ap or_shared h)

  module _ (trust : TrustedRoot) (material : Material) (bundle : Bundle) (t : trust_of file ≡ Ok trust) (u : material_of trust ≡ Ok material) (b : bundle_of asked.bundle ≡ Ok bundle) where
    abbrev Of : Had → List Meaning → Result (ℕ × JudgedBundle) (List Error)
    Of had rules = answers_of (grounds_of asked material) bundle had rules

    to_judged : rules_verdict_by asked file bytes ≡ or_each (Of (Whole bytes) asked.rules)
    unfolding rules_verdict_by
    to_judged =
        step_to (or_shared (trust_of file)) (after_trust asked bytes) trust (ap or_shared t)
        ∙ step_to (or_shared (material_of trust)) (after_use asked bytes) material (ap or_shared u)
        ∙ step_to (or_shared (bundle_of asked.bundle)) (after_bundle asked bytes material) bundle (ap or_shared b)

    -- rules that refuse before the artifact refuse so over its bytes
    before_bytes : (n : ℕ) (rules : List Meaning) (refusals : List Error) → AreUnprepared bundle rules refusals
        → first_from n (map (answer_of (grounds_of asked material) bundle (Whole bytes)) rules) ≡ Err refusals
    before_bytes n rules refusals v =
        each_refuses (answer_of (grounds_of asked material) bundle (Whole bytes)) n rules refusals
        (all_zip (λ policy e p. ap (λ (r : Result VerificationResult Error). r >>= λ report. Ok (record { result = report; digests = digests_by (needed_by policy bundle) bytes }))
        (unready (terms_of (asked_under asked policy) material) bundle (Read bytes) e p)) rules refusals v)

    by_cause : (refusals : List Error) → RulesCause (grounds_of asked material) asked.rules bundle source source' asked.max refusals → Verdict (Err (Each refusals))
    by_cause refusals (before_reading unread v) = inr (sym (to_judged ∙ ap or_each (before_bytes 1 asked.rules refusals v)))
    by_cause refusals (after_reading read whole h) =
        let same = read_whole source source' asked.max bytes read told whole in
        inr (sym (to_judged ∙ ap or_each (ap (λ x. Of (Whole x) asked.rules) (sym same) ∙ h)))
    by_cause refusals (in_reading fault cause h) = absurd (never_unread source source' asked.max bytes fault told quiet short cause)

    by_result : (result : Result JudgedByRule RulesError) → VerifiesByRules (grounds_of asked material) asked.rules bundle source source' asked.max result → Verdict result
    by_result (Ok accepted) v =
        let a = v.accepted in
        let same = read_whole source source' asked.max bytes a.bytes told a.read in
        inr (sym (to_judged ∙ ap or_each (ap (λ x. Of (Whole x) asked.rules) (sym same) ∙ a.first)))
    by_result (Err (Shared e)) v = inl (ap (λ d. Err (Shared d)) v.refused)
    by_result (Err (Each refusals)) v = by_cause refusals v.refused.0

  pub rules_complete : (result : Result JudgedByRule RulesError) → JudgesByRules asked file source source' result → Verdict result
  rules_complete result (trust_refused e h s is) = refused_so e result is (λ other. trust_err e (h other))
  rules_complete result (verifier_refused trust e t h s is) = refused_so e result is (λ other. usable_err trust e t (h other))
  rules_complete result (bundle_refused trust material e t u h s is) = refused_so e result is (λ other. bundle_err trust material e t u (h other))
  rules_complete result (judged trust material bundle t u b v) = by_result trust material bundle t u b result v

-- ---- one rule

-- the answer of one rule alone
alone : (answer : Result JudgedBundle Error) → IsAlone answer (or_each (first_from 1 (answer ∷ [])))
alone (Ok x) = (refl, refl)
alone (Err e) = refl

pub one_rule : OneRule
unfolding rules_verdict_by verdict_by
one_rule asked policy file bytes one = by_trust (trust_of file)
  where
    by_bundle : (material : Material) (r : Result Bundle Error)
        → IsAlone (r >>= λ bundle. answer_of (grounds_of asked material) bundle (Whole bytes) policy) (or_shared r >>= after_bundle asked bytes material)
    by_bundle material (Ok bundle) =
        subst (λ rules. IsAlone (answer_of (grounds_of asked material) bundle (Whole bytes) policy) (or_each (answers_of (grounds_of asked material) bundle (Whole bytes) rules)))
        (sym one) (alone (answer_of (grounds_of asked material) bundle (Whole bytes) policy))
    by_bundle material (Err e) = refl

    by_material : (r : Result Material Error)
        → IsAlone (r >>= λ material. bundle_of asked.bundle >>= λ bundle. answer_of (grounds_of asked material) bundle (Whole bytes) policy)
        (or_shared r >>= after_use asked bytes)
    by_material (Ok material) = by_bundle material (bundle_of asked.bundle)
    by_material (Err e) = refl

    by_trust : (r : Result TrustedRoot Error)
        → IsAlone (r >>= λ trust. material_of trust >>= λ material. bundle_of asked.bundle >>= λ bundle. answer_of (grounds_of asked material) bundle (Whole bytes) policy)
        (or_shared r >>= after_trust asked bytes)
    by_trust (Ok trust) = by_material (material_of trust)
    by_trust (Err e) = refl
