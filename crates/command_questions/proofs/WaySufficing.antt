-- What is asked of a verification in any way, and suffices.
use Rattle.std.proofs.Common.{◌≡◌, ℕ, List, map, Some, Ok, Err, IfOk, OnOk, Result, ap, ◌∙◌, subst}
use Rattle.std.specs.Prelude.{⊤}
use Rattle.jiff_core.specs.declared.timestamp.Timestamp as jiff
use Rattle.foundation.specs.declared.no_memory.NoMemory.{NoMemory}
use Rattle.sigstore_types.specs.declared.bundle.Bundle.{Bundle}
use Rattle.sigstore_types.specs.declared.trusted_root.TrustedRoot.{TrustedRoot}
use Rattle.sigstore_types.specs.Bundle.{bundle_of_bytes}
use Rattle.sigstore_types.specs.TrustedRoot.{trusted_root_of_bytes}
use Rattle.sigstore_types_parts.specs.declared.hash_algorithm.ArtifactDigest.{ArtifactDigest}
use Rattle.sigstore_policy.specs.Policy.{Meaning, meaning_in}
use Rattle.sigstore_policy.specs.declared.policy.SigningPolicy.{SigningPolicy}
use Rattle.sigstore_judgement.specs.declared.rules.JudgedByRule.{JudgedByRule}
use Rattle.sigstore_judgement.specs.UnderRules.{RulesAsked}
use Rattle.sigstore_verify.specs.ByRules.{RulesInputs}
use Rattle.command_files.specs.declared.gather.Gathered.{Gathered}
use Rattle.command_files.specs.declared.tables.TableProvider.{TableProvider}
use Rattle.command_files.specs.declared.tables.Tables.{Tables}
use Rattle.command_files.specs.Tables.{crypto_of}
use Rattle.command_verify.specs.Run.{given_with, given_of}
use Rattle.command_verify.specs.declared.request.VerifyRequest.{VerifyRequest}
use Rattle.command_ways.specs.declared.judging.Came.{Came}
use Rattle.command_ways.specs.declared.layout.Way.{Way}
use Rattle.command_ways.specs.Judging.{Outside, VerifiesWay}
use Rattle.question_notes.specs.Believing.{believing}
use Rattle.question_notes.specs.declared.noted.Noted.{Noted}
use Rattle.command_questions.specs.Suffice.{rule_at, IsAcceptedUnder}
use Rattle.command_questions.specs.WayMeans.{Asks}
use Rattle.command_questions.specs.WaySuffice.{IsJudgedAlone, SufficeForWay}
use Rattle.command_questions.proofs.Sufficing.{same_inputs, rule_meant}

-- the run with the provider that notes
pub verified_noting : (request : VerifyRequest) (way : Way) (before after : Outside) (came : Came) (held given : TableProvider) → held ≡ given
    → VerifiesWay (given_of (believing held.rows) request) way before after came → VerifiesWay (given_of (believing given.rows) request) way before after came
verified_noting request way before after came held given same v =
    subst (λ (t : TableProvider). VerifiesWay (given_of (believing t.rows) request) way before after came) same v

module _ (way : Way) (gathered : Gathered) (now : jiff.Timestamp) (rules : List SigningPolicy) (root bundle : List ℕ) (ruled : rules ≡ gathered.rules) (rooted : root ≡ gathered.root)
    (bundled : bundle ≡ gathered.bundle) where
  -- what was noted is asked by the inputs, and suffices
  pub way_asks : (before after : Outside) (came : Came) (held : TableProvider) (noted : Result Noted NoMemory) → held ≡ gathered.tables.provider
      → VerifiesWay (given_with (believing held.rows) (map meaning_in rules) root bundle now) way before after came
      → IfOk noted (λ n. SufficeForWay (given_with (crypto_of n.tables) (map meaning_in rules) root bundle now) came)
      → IfOk noted (λ n. Asks way gathered now n.tables before after)
  way_asks before after came held (Err e) same v suffice = tt
  way_asks before after came held (Ok n) same v suffice =
      let asked : VerifiesWay (given_with (believing gathered.tables.provider.rows) (map meaning_in rules) root bundle now) way before after came =
      subst (λ (t : TableProvider). VerifiesWay (given_with (believing t.rows) (map meaning_in rules) root bundle now) way before after came) same v in
      record {
        came = came;
        verifies =
            subst (λ (given : RulesInputs). VerifiesWay given way before after came)
            (same_inputs gathered now rules root bundle ruled rooted bundled (believing gathered.tables.provider.rows)) asked;
        suffice =
            subst (λ (given : RulesInputs). SufficeForWay given came) (same_inputs gathered now rules root bundle ruled rooted bundled (crypto_of n.tables)) suffice;
      }

-- at the same moment
pub way_asks_at : (way : Way) (gathered : Gathered) (now told : jiff.Timestamp) (rows : Tables) (before after : Outside) → now ≡ told
    → Asks way gathered now rows before after → Asks way gathered told rows before after
way_asks_at way gathered now told rows before after same a = subst (λ n. Asks way gathered n rows before after) same a

-- the bundle is accepted, with what was read
pub judged_alone : (asked : RulesAsked) (rules : List SigningPolicy) (file : List ℕ) (judged : JudgedByRule) (policy : SigningPolicy) (trust : TrustedRoot)
    (reading : Bundle) (digests : List ArtifactDigest) (checked : Result ⊤ NoMemory) → asked.rules ≡ map meaning_in rules → rule_at rules judged.rule ≡ Some policy
    → trusted_root_of_bytes file ≡ Ok trust → bundle_of_bytes asked.bundle ≡ Ok reading → digests ≡ judged.judged.digests
    → OnOk checked (IsAcceptedUnder asked.crypto trust (meaning_in policy) asked.now reading digests) → OnOk checked (IsJudgedAlone asked file judged)
judged_alone asked rules file judged policy trust reading digests (Err e) meant at trusted read same under = tt
judged_alone asked rules file judged policy trust reading digests (Ok x) meant at trusted read same under = record {
  policy = meaning_in policy;
  at = ap (λ (means : List Meaning). rule_at means judged.rule) meant ∙ rule_meant rules judged.rule policy at;
  trust = trust;
  trust_read = trusted;
  reading = reading;
  read = read;
  under = subst (λ (d : List ArtifactDigest). IsAcceptedUnder asked.crypto trust (meaning_in policy) asked.now reading d) same under;
}
