-- When a run of the program has to accept, and what it says where it hasn't to: over an offered chain, where nothing outside fails.
use Rattle.std.specs.Prelude.{◌≡◌, ℕ, List, Bool, Some, Result, Ok, Err}
use Rattle.foundation.specs.Watched.{Watched}
use Rattle.sigstore_tuf_rules.specs.declared.chain.TrustChain.{TrustChain}
use Rattle.sigstore_judgement.specs.UnderRules.{rules_verdict_by}
use Rattle.sigstore_verify.specs.declared.by_rules.RuleAcceptance.{RuleAcceptance}
use Rattle.sigstore_verify.specs.declared.by_rules.RulesFault.{RulesFault}
use Rattle.sigstore_verify.specs.ByRules.{RulesInputs, rules_asked_by, ruled_of, FavoursRules}
use Rattle.sigstore_verify.specs.Complete.{TellsQuietly, StaysWarm}
use Rattle.command_files.specs.Inputs.{Held, watched}
use Rattle.command_files.specs.Layout.{layout_of}
use Rattle.command_files.specs.Gather.{gathered_of}
use Rattle.command_files.specs.declared.layout.Layout.{Layout}
use Rattle.command_files.specs.declared.gather.Gathered.{Gathered}
use Rattle.command_files.specs.declared.answer.Status.{Status}
use Rattle.command_files.specs.declared.answer.Answer.{Answer}
use Rattle.command_files.specs.Ending.{TakesAll, OrFails}
use Rattle.command_files.specs.Starting.{Command, now_of}
use Rattle.command_verify.specs.Run.{Environment, given_by, refusal_answer, are_several, SaysReport}

-- The words meet their grammar, told inputs are read without a fault and are these, and nothing fails of what the verification
-- goes to.
pub record Favoured (command : Command) (before after : Environment) (chain : TrustChain) (bytes : List ℕ) : Type 0 where
  pub layout : Layout
  pub worded : layout_of command.words ≡ Ok layout
  pub held : Held
  pub inputs : TellsQuietly (watched before.inputs) (watched after.inputs) held
  pub gathered : Gathered
  pub gathered_is : gathered_of held ≡ Ok gathered
  pub outside : FavoursRules (given_by gathered (now_of layout command.clock)) before.outside after.outside chain bytes

-- what is said of an answer of the top call: the report of an acceptance, the line of a refusal
abbrev pub SaysOf : Bool → Result RuleAcceptance RulesFault → Answer → Type 0
SaysOf several (Ok accepted) said = SaysReport several accepted said
SaysOf several (Err fault) said = refusal_answer fault ≡ Some said

abbrev pub favoured_in : {command : Command} {before after : Environment} {chain : TrustChain} {bytes : List ℕ}
    → Favoured command before after chain bytes → RulesInputs
favoured_in {command} f = given_by f.gathered (now_of f.layout command.clock)

-- what the verdict makes the program say was written whole, and its status is the run's
pub record SaysVerdict (several : Bool) (given : RulesInputs) (chain : TrustChain) (bytes : List ℕ) (out out' : Watched (List ℕ))
    (ended : Status) : Type 0 where
  pub said : Answer
  pub says : SaysOf several (ruled_of chain (rules_verdict_by (rules_asked_by given) chain.file bytes)) said
  pub written : TakesAll out out' said.text
  pub ended_is : ended ≡ said.status

-- Where a chain is offered and nothing outside fails, the run says the verdict over it, with status 0 for an acceptance and 1 for a
-- refusal, and the store stays warm; or memory was wanting, with status 5; or the sink failed, with status 4.
abbrev pub Completes : Command → Environment → Environment → Watched (List ℕ) → Watched (List ℕ) → Status → Type 0
Completes command before after out out' ended =
    (chain : TrustChain) (bytes : List ℕ) (f : Favoured command before after chain bytes)
    → OrFails out out' ended
    (SaysVerdict (are_several f.gathered) (favoured_in f) chain bytes out out' ended × StaysWarm after.outside.store f.outside.offer)
