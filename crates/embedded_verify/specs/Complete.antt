-- When a call has to accept.
use Rattle.std.specs.Prelude.{◌≡◌, ◌≤◌, true, length, Ok}
use Rattle.jiff_core.specs.declared.timestamp.Timestamp as jiff
use Rattle.sigstore_judgement.specs.UnderRules.{rules_verdict_by}
use Rattle.sigstore_judgement.specs.declared.rules.JudgedByRule.{JudgedByRule}
use Rattle.sigstore_tuf_rules.specs.declared.chain.TrustChain.{TrustChain}
use Rattle.sigstore_verify.specs.ByRules.{RulesInputs, rules_asked_by}
use Rattle.sigstore_verify.specs.Complete.{OffersChain}
use Rattle.sigstore_verify.specs.Inputs.{Places, places_in}
use Rattle.command_files.specs.Gather.{gathered_of}
use Rattle.command_files.specs.Tables.{tables_of}
use Rattle.command_files.specs.declared.gather.Gathered.{Gathered}
use Rattle.command_files.specs.declared.tables.Tables.{Tables}
use Rattle.command_verify.specs.Run.{given_under, max_artifact}
use Rattle.embedded_verify.specs.Handed.{held_in, found_in, IsMoment, knowing}
use Rattle.embedded_verify.specs.declared.request.Request.{Request}

-- what the top call is given, by the signatures whose rows are said to be good
abbrev pub known_under : Gathered → jiff.Timestamp → RulesInputs
known_under gathered now = given_under (knowing gathered.tables.provider.rows) gathered now

abbrev pub places_of : Request → Places
places_of request = places_in (found_in request)

-- By the good rows alone, the repository's files offer a chain from the pinned root at this moment, over the files of the store; and
-- under the chain's trust file one of the rules accepts the artifact.
pub record Authorises (request : Request) (gathered : Gathered) (now : jiff.Timestamp) : Type 0 where
  pub chain : TrustChain
  pub offer : OffersChain (known_under gathered now).anchor (places_of request) (places_of request) chain
  pub short : length request.artifact.now ≤ max_artifact
  pub judged : JudgedByRule
  pub accepts : rules_verdict_by (rules_asked_by (known_under gathered now)) chain.file request.artifact.now ≡ Ok judged

-- The request is read, its repository has no files but those that are handed in, and all of this authorises the artifact.
pub record Favoured (request : Request) : Type 0 where
  pub gathered : Gathered
  pub inputs : gathered_of (held_in request) ≡ Ok gathered
  pub bad : Tables
  pub bad_read : tables_of request.bad.now ≡ Ok bad
  pub now : jiff.Timestamp
  pub at : IsMoment request now
  pub whole : request.whole ≡ true
  pub authorises : Authorises request gathered now
