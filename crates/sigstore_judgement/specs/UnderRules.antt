-- The judgement of a bundle under a trust file and rules, from their bytes.
use Rattle.std.specs.Prelude.{◌≡◌, ◌≢◌, ℕ, List, [], ◌∷◌, map, Result, Ok, Err}
use Rattle.foundation.specs.Steps.{◌>>=◌}
use Rattle.foundation.specs.Watched.{Watched}
use Rattle.jiff_core.specs.declared.timestamp.Timestamp as jiff
use Rattle.sigstore_types.specs.declared.bundle.Bundle.{Bundle}
use Rattle.sigstore_types.specs.declared.trusted_root.TrustedRoot.{TrustedRoot}
use Rattle.sigstore_keys.specs.Crypto.{Crypto}
use Rattle.sigstore_policy.specs.Policy.{Meaning, meaning_in}
use Rattle.sigstore_judgement.specs.declared.asked.RulesAsked as declared
use Rattle.sigstore_judgement.specs.declared.error.Error.{Error}
use Rattle.sigstore_judgement.specs.declared.error.Error.TheVariants as verify
use Rattle.sigstore_judgement.specs.declared.report.JudgedBundle.{JudgedBundle}
use Rattle.sigstore_judgement.specs.declared.rules.JudgedByRule.{JudgedByRule}
use Rattle.sigstore_judgement.specs.declared.rules.RulesError.{RulesError}
use Rattle.sigstore_judgement.specs.declared.rules.RulesError.TheVariants.{Shared, Each}
use Rattle.sigstore_judgement.specs.declared.trust.Material.{Material}
use Rattle.sigstore_judgement.specs.Grounds.{Grounds}
use Rattle.sigstore_judgement.specs.Rules.{Whole, answers_of, VerifiesByRules}
use Rattle.sigstore_judgement.specs.Trust.{material_of}
use Rattle.sigstore_judgement.specs.Under.{Asked, trust_of, bundle_of, verdict_by}

-- what is asked of a bundle under rules and a trust file that isn't read yet
pub record RulesAsked : Type 0 where
  pub crypto : Crypto
  pub rules : List Meaning
  pub now : jiff.Timestamp
  pub bundle : List ℕ
  pub max : ℕ

-- what a call of the code is asked
abbrev pub rules_asked_with : Crypto → jiff.Timestamp → declared.RulesAsked → RulesAsked
rules_asked_with crypto now asked = record {
  crypto = crypto;
  rules = map meaning_in asked.rules.now;
  now = now;
  bundle = asked.bundle.now;
  max = asked.max_artifact;
}

-- the same under one policy
abbrev pub asked_under : RulesAsked → Meaning → Asked
asked_under asked policy = record {
  crypto = asked.crypto;
  policy = policy;
  now = asked.now;
  bundle = asked.bundle;
  max = asked.max;
}

-- with what is kept of the trust file
abbrev pub grounds_of : RulesAsked → Material → Grounds
grounds_of asked material = record { crypto = asked.crypto; material = material; now = asked.now }

-- The file is read, a verifier is made of it, then the bundle is read, whatever the rules are; then the artifact is judged under them.
pub data JudgesByRules (asked : RulesAsked) (file : List ℕ) (source source' : Watched (List ℕ)) (result : Result JudgedByRule RulesError)
    : Type 0 where
  trust_refused : (e : Error) → (e ≢ verify.NoMemory → trust_of file ≡ Err e) → source' ≡ source → result ≡ Err (Shared e)
      → JudgesByRules asked file source source' result
  verifier_refused : (trust : TrustedRoot) (e : Error) → trust_of file ≡ Ok trust
      → (e ≢ verify.NoMemory → material_of trust ≡ Err e) → source' ≡ source → result ≡ Err (Shared e)
      → JudgesByRules asked file source source' result
  bundle_refused : (trust : TrustedRoot) (material : Material) (e : Error) → trust_of file ≡ Ok trust → material_of trust ≡ Ok material
      → (e ≢ verify.NoMemory → bundle_of asked.bundle ≡ Err e) → source' ≡ source → result ≡ Err (Shared e)
      → JudgesByRules asked file source source' result
  judged : (trust : TrustedRoot) (material : Material) (reading : Bundle) → trust_of file ≡ Ok trust → material_of trust ≡ Ok material
      → bundle_of asked.bundle ≡ Ok reading
      → VerifiesByRules (grounds_of asked material) asked.rules reading source source' asked.max result
      → JudgesByRules asked file source source' result

-- ---- the verdict

-- a step that all rules share
abbrev pub or_shared : {A : Type 0} → Result A Error → Result A RulesError
or_shared (Ok x) = Ok x
or_shared (Err e) = Err (Shared e)

abbrev pub by_rule : ℕ × JudgedBundle → JudgedByRule
by_rule answer = record { rule = answer.0; judged = answer.1 }

abbrev pub or_each : Result (ℕ × JudgedBundle) (List Error) → Result JudgedByRule RulesError
or_each (Ok answer) = Ok (by_rule answer)
or_each (Err refusals) = Err (Each refusals)

-- What is made of a trust file and of an artifact's bytes: the first refusal of what all rules share; then the first rule that accepts, or
-- each one's refusal.
unfoldable pub rules_verdict_by : RulesAsked → List ℕ → List ℕ → Result JudgedByRule RulesError
rules_verdict_by asked file bytes = do
  trust ← or_shared (trust_of file)
  material ← or_shared (material_of trust)
  bundle ← or_shared (bundle_of asked.bundle)
  or_each (answers_of (grounds_of asked material) bundle (Whole bytes) asked.rules)

-- ---- one rule

-- under one rule the answer is the one under its policy alone
abbrev pub IsAlone : Result JudgedBundle Error → Result JudgedByRule RulesError → Type 0
IsAlone (Ok alone) (Ok accepted) = (accepted.rule ≡ 1) × (accepted.judged ≡ alone)
IsAlone (Err e) (Err (Shared d)) = d ≡ e
IsAlone (Err e) (Err (Each refusals)) = refusals ≡ e ∷ []
IsAlone (Ok alone) (Err e) = ⊥
IsAlone (Err e) (Ok accepted) = ⊥

abbrev pub OneRule : Type 0
OneRule = (asked : RulesAsked) (policy : Meaning) (file bytes : List ℕ) → asked.rules ≡ policy ∷ []
    → IsAlone (verdict_by (asked_under asked policy) file bytes) (rules_verdict_by asked file bytes)
