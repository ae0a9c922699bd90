-- The top call over an artifact that is told by its digests: nothing of it is read.
use Rattle.std.specs.Prelude.{◌≡◌, ◌≢◌, ℕ, List, map, true, Result, Ok, Err}
use Rattle.std.specs.List.{AllByRecursion, list_any}
use Rattle.foundation.specs.Steps.{◌>>=◌}
use Rattle.jiff_core.specs.declared.timestamp.Timestamp as jiff
use Rattle.sigstore_types_parts.specs.HashAlgorithm.{same_algorithm}
use Rattle.sigstore_types_parts.specs.declared.hash_algorithm.ArtifactDigest.{ArtifactDigest}
use Rattle.sigstore_types_parts.specs.declared.hash_algorithm.HashAlgorithm.{HashAlgorithm}
use Rattle.sigstore_types.specs.declared.bundle.Bundle.{Bundle}
use Rattle.sigstore_keys.specs.Crypto.{Crypto}
use Rattle.sigstore_keys.specs.Digest.{digests_by}
use Rattle.sigstore_policy.specs.Policy.{Meaning, meaning_in}
use Rattle.sigstore_tuf_text.specs.declared.error.Error.{Error as TufError}
use Rattle.sigstore_tuf_rules.specs.declared.chain.TrustChain.{TrustChain}
use Rattle.sigstore_judgement.specs.declared.error.Error.TheVariants as verify
use Rattle.sigstore_judgement.specs.declared.rules.JudgedByRule.{JudgedByRule}
use Rattle.sigstore_judgement.specs.declared.rules.ReadArtifact.{ReadArtifact}
use Rattle.sigstore_judgement.specs.declared.rules.ReadArtifact.TheVariants.{Digests}
use Rattle.sigstore_judgement.specs.declared.rules.RulesError.{RulesError}
use Rattle.sigstore_judgement.specs.declared.rules.RulesError.TheVariants.{Shared, Each}
use Rattle.sigstore_judgement.specs.Judged.{needed_by}
use Rattle.sigstore_judgement.specs.Rules.{answers_by, NoneWants}
use Rattle.sigstore_judgement.specs.Trust.{material_of}
use Rattle.sigstore_judgement.specs.Under.{trust_of, bundle_of}
use Rattle.sigstore_judgement.specs.UnderRules.{RulesAsked, or_shared, or_each, rules_verdict_by}
use Rattle.sigstore_verify.specs.declared.by_digests.DigestsAsked as declared
use Rattle.sigstore_verify.specs.declared.by_rules.RuleAcceptance.{RuleAcceptance}
use Rattle.sigstore_verify.specs.declared.by_rules.RulesFault.{RulesFault}
use Rattle.sigstore_verify.specs.declared.by_rules.RulesFault.TheVariants.{Root}
use Rattle.sigstore_verify.specs.ByRules.{ruled_of}
use Rattle.sigstore_verify.specs.FromRoot.{root_of_tuf}
use Rattle.sigstore_verify.specs.Inputs.{Anchor, Places}
use Rattle.sigstore_verify.specs.Promises.{PromisesChain}

-- what is asked of a bundle over told digests, under rules and a trust file that isn't read yet
pub record ToldAsked : Type 0 where
  pub crypto : Crypto
  pub rules : List Meaning
  pub now : jiff.Timestamp
  pub bundle : List ℕ

-- what a call of the code is asked
abbrev pub told_asked_with : Crypto → jiff.Timestamp → declared.DigestsAsked → ToldAsked
told_asked_with crypto now asked = record { crypto = crypto; rules = map meaning_in asked.rules.now; now = now; bundle = asked.bundle.now }

-- What is made of a trust file and of told digests: the first refusal of what all rules share; then the first rule that accepts over these
-- digests, or each one's refusal. A rule that needs a digest that isn't told refuses as `UnsupportedArtifact`.
unfoldable pub told_verdict_by : ToldAsked → List ℕ → ReadArtifact → Result JudgedByRule RulesError
told_verdict_by asked file artifact = do
  trust ← or_shared (trust_of file)
  material ← or_shared (material_of trust)
  bundle ← or_shared (bundle_of asked.bundle)
  or_each (answers_by (record { crypto = asked.crypto; material = material; now = asked.now }) bundle artifact asked.rules)

-- the answer is the verdict; want of memory aside, which is never a rule's refusal
abbrev pub TellsVerdict : Result JudgedByRule RulesError → Result JudgedByRule RulesError → Type 0
TellsVerdict verdict (Ok accepted) = verdict ≡ Ok accepted
TellsVerdict verdict (Err (Shared e)) = e ≢ verify.NoMemory → verdict ≡ Err (Shared e)
TellsVerdict verdict (Err (Each refusals)) = (verdict ≡ Err (Each refusals)) × NoneWants refusals

-- The call is the chain, with all that this promises of its answer and of the store; and then the verdict under the chain's file.
pub data PromisesByDigests (anchor : Anchor) (asked : ToldAsked) (told : List ArtifactDigest) (before after : Places)
    (result : Result RuleAcceptance RulesFault) : Type 0 where
  chain_refused : (e : TufError) → PromisesChain anchor before after (Err e) → result ≡ Err (Root (root_of_tuf e))
      → PromisesByDigests anchor asked told before after result
  judged : (chain : TrustChain) (answer : Result JudgedByRule RulesError) → PromisesChain anchor before after (Ok chain)
      → TellsVerdict (told_verdict_by asked chain.file (Digests told)) answer → result ≡ ruled_of chain answer
      → PromisesByDigests anchor asked told before after result

-- ---- digests and bytes

-- each digest that the rule needs of the bundle is told
abbrev pub TellsNeeded : List HashAlgorithm → Bundle → Meaning → Type 0
TellsNeeded told bundle policy =
    (a : HashAlgorithm) → list_any (same_algorithm a) (needed_by policy bundle) ≡ true → list_any (same_algorithm a) told ≡ true

-- the same is asked over told digests
abbrev pub told_asked_of : RulesAsked → ToldAsked
told_asked_of asked = record { crypto = asked.crypto; rules = asked.rules; now = asked.now; bundle = asked.bundle }

-- Over digests of bytes the verdict is the one over the bytes, where each digest that a rule needs is told.
abbrev pub DigestsStandForBytes : Type 0
DigestsStandForBytes = (asked : RulesAsked) (file bytes : List ℕ) (told : List HashAlgorithm)
    → ((bundle : Bundle) → bundle_of asked.bundle ≡ Ok bundle → AllByRecursion (TellsNeeded told bundle) asked.rules)
    → told_verdict_by (told_asked_of asked) file (Digests (digests_by told bytes)) ≡ rules_verdict_by asked file bytes
