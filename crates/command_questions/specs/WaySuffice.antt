-- The rows that are written suffice for what a verification in any way came to.
use Rattle.std.specs.Prelude.{◌≡◌, ◌≢◌, ⊤, ℕ, List, Some, Result, Ok, Err}
use Rattle.sigstore_types.specs.declared.bundle.Bundle.{Bundle}
use Rattle.sigstore_types.specs.declared.trusted_root.TrustedRoot.{TrustedRoot}
use Rattle.sigstore_types.specs.Bundle.{bundle_of_bytes}
use Rattle.sigstore_types.specs.TrustedRoot.{trusted_root_of_bytes}
use Rattle.sigstore_policy.specs.Policy.{Meaning}
use Rattle.sigstore_judgement.specs.declared.error.Error.TheVariants.{NoMemory}
use Rattle.sigstore_judgement.specs.declared.rules.JudgedByRule.{JudgedByRule}
use Rattle.sigstore_judgement.specs.declared.rules.RulesError.{RulesError}
use Rattle.sigstore_judgement.specs.declared.rules.RulesError.TheVariants.{Shared}
use Rattle.sigstore_judgement.specs.UnderRules.{RulesAsked}
use Rattle.sigstore_verify.specs.ByRules.{RulesInputs, rules_asked_by}
use Rattle.sigstore_verify.specs.Inputs.{Anchor}
use Rattle.command_ways.specs.declared.judging.Came.{Came}
use Rattle.command_ways.specs.declared.judging.Came.TheVariants.{Untrusted, Judged}
use Rattle.command_ways.specs.declared.trust.Trust.{Trust}
use Rattle.command_ways.specs.declared.trust.Trust.TheVariants.{Chain, File}
use Rattle.command_ways.specs.declared.trust.TrustFault.TheVariants as fault
use Rattle.command_ways.specs.Trust.{file_of}
use Rattle.command_questions.specs.Suffice.{IsTrustedAlone, IsAcceptedUnder, rule_at}

-- the chain of a trusted root is trusted by the rows alone; a trusted root that the caller handed in has none
abbrev pub IsTrustedSo : Anchor → Trust → Type 0
IsTrustedSo anchor (Chain chain) = IsTrustedAlone anchor chain
IsTrustedSo anchor (File bytes) = ⊤

-- the bundle is accepted under its rule and the trusted root, over the digests that were taken
pub record IsJudgedAlone (asked : RulesAsked) (file : List ℕ) (judged : JudgedByRule) : Type 0 where
  pub policy : Meaning
  pub at : rule_at asked.rules judged.rule ≡ Some policy
  pub trust : TrustedRoot
  pub trust_read : trusted_root_of_bytes file ≡ Ok trust
  pub reading : Bundle
  pub read : bundle_of_bytes asked.bundle ≡ Ok reading
  pub under : IsAcceptedUnder asked.crypto trust policy asked.now reading judged.judged.digests

-- what is accepted is accepted by the rows alone; a refusal isn't one for want of memory
abbrev pub IsAnsweredSo : RulesAsked → List ℕ → Result JudgedByRule RulesError → Type 0
IsAnsweredSo asked file (Ok judged) = IsJudgedAlone asked file judged
IsAnsweredSo asked file (Err e) = e ≢ Shared NoMemory

-- Where it came to a chain, that is trusted by the rows alone; where it accepted, that stands by them alone. Where memory was wanting, no rows
-- suffice.
abbrev pub SufficeForWay : RulesInputs → Came → Type 0
SufficeForWay given (Judged trust answer) = IsTrustedSo given.anchor trust × IsAnsweredSo (rules_asked_by given) (file_of trust) answer
SufficeForWay given (Untrusted fault.NoMemory) = ⊥
SufficeForWay given (Untrusted e) = ⊤
