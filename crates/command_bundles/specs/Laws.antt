-- The search in a list told without its order, and over the artifact's bytes.
use Rattle.std.specs.Prelude.{◌≡◌, ◌↔◌, ℕ, List, ◌∷◌, ◌++◌, Result, Ok, Err}
use Rattle.std.specs.List.{AllZip}
use Rattle.sigstore_keys.specs.Digest.{digests_by}
use Rattle.sigstore_judgement.specs.declared.rules.JudgedByRule.{JudgedByRule}
use Rattle.sigstore_judgement.specs.declared.rules.ReadArtifact.TheVariants.{Digests}
use Rattle.sigstore_judgement.specs.declared.rules.RulesError.{RulesError}
use Rattle.sigstore_judgement.specs.UnderRules.{RulesAsked, rules_verdict_by}
use Rattle.command_verify.specs.Run.{max_artifact}
use Rattle.command_bundles.specs.declared.judging.BundleRefusal.{BundleRefusal}
use Rattle.command_bundles.specs.declared.lines.ListedBundle.{ListedBundle}
use Rattle.command_bundles.specs.Judging.{hashed, first_of, ListInputs, verdict_of}

-- ---- the first

-- each bundle is refused, with its own refusal and the number of its line
abbrev pub AllRefused : (List ℕ → Result JudgedByRule RulesError) → List ListedBundle → List BundleRefusal → Type 0
AllRefused verdict bundles refusals =
    AllZip (λ (bundle : ListedBundle) (refusal : BundleRefusal). (verdict bundle.text ≡ Err refusal.why) × (refusal.line ≡ bundle.line)) bundles refusals

-- this bundle is accepted, and each before it is refused
pub record IsFirst (verdict : List ℕ → Result JudgedByRule RulesError) (bundles : List ListedBundle) (bundle : ListedBundle)
    (judged : JudgedByRule) : Type 0 where
  pub earlier : List ListedBundle
  pub later : List ListedBundle
  pub split : bundles ≡ earlier ++ bundle ∷ later
  pub refusals : List BundleRefusal
  pub refused : AllRefused verdict earlier refusals
  pub accepted : verdict bundle.text ≡ Ok judged

-- exactly then it is the first; and the refusals are told exactly where all are refused
pub record FirstExactly : Type 0 where
  pub accepts : (verdict : List ℕ → Result JudgedByRule RulesError) (bundles : List ListedBundle) (bundle : ListedBundle) (judged : JudgedByRule)
      → (first_of verdict bundles ≡ Ok (bundle, judged)) ↔ IsFirst verdict bundles bundle judged
  pub refuses : (verdict : List ℕ → Result JudgedByRule RulesError) (bundles : List ListedBundle) (refusals : List BundleRefusal)
      → (first_of verdict bundles ≡ Err refusals) ↔ AllRefused verdict bundles refusals

-- ---- bytes

-- what is asked of the one bundle of a run over bytes
abbrev pub asked_over : ListInputs → List ℕ → RulesAsked
asked_over given text =
    record { crypto = given.anchor.crypto; rules = given.rules; now = given.anchor.now; bundle = text; max = max_artifact }

-- Over the digests that a list's run takes of bytes the verdict on a bundle is the one over the bytes, whatever the bundle needs.
abbrev pub VerdictsOverBytes : Type 0
VerdictsOverBytes = (given : ListInputs) (file bytes text : List ℕ)
    → verdict_of given file (Digests (digests_by hashed bytes)) text ≡ rules_verdict_by (asked_over given text) file bytes
