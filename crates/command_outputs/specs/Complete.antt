-- When a run that is asked for more than the report has to accept, and what it says where it hasn't to: where nothing outside fails.
use Rattle.std.specs.Prelude.{◌≡◌, ◌⊎◌, ℕ, List, Option, Some, None, Result, Ok, Err}
use Rattle.foundation.specs.Watched.{Watched, Rose}
use Rattle.sigstore_judgement.specs.declared.rules.JudgedByRule.{JudgedByRule}
use Rattle.sigstore_judgement.specs.declared.rules.RulesError.{RulesError}
use Rattle.command_files.specs.Ending.{TakesAll}
use Rattle.command_files.specs.Starting.{Command, now_of}
use Rattle.command_files.specs.declared.answer.Status.{Status}
use Rattle.command_files.specs.declared.answer.Status.TheVariants as status
use Rattle.command_ways.specs.Complete as ways
use Rattle.command_ways.specs.Judging.{verdict_over}
use Rattle.command_ways.specs.Report.{way_text, refused_answer}
use Rattle.command_ways.specs.Run.{asked_for, telling_of}
use Rattle.command_ways.specs.Trust.{file_of}
use Rattle.command_ways.specs.declared.trust.Trust.{Trust}
use Rattle.command_outputs.specs.declared.layout.OutputsLayout.{OutputsLayout}
use Rattle.command_outputs.specs.Concluding.{no_envelope_answer, told_text}
use Rattle.command_outputs.specs.Layout.{outputs_layout_of}
use Rattle.command_outputs.specs.Payload.{payload_of}
use Rattle.command_outputs.specs.Run.{Environment, verified_in, plain_command}
use Rattle.command_outputs.specs.Promises.{IsGiven, IsUntouched}

-- the words are read, and without those that ask for more the run is favoured as one of `verify`
pub record Favoured (command : Command) (before after : Environment) (trust : Trust) (bytes : List ℕ) : Type 0 where
  pub layout : OutputsLayout
  pub worded : outputs_layout_of command.words ≡ Ok layout
  pub favoured : ways.Favoured (plain_command command) (verified_in before) (verified_in after) trust bytes

-- the verdict under the trusted root that is offered, over the artifact's bytes or its told digests
abbrev pub verdict_in : {command : Command} {before after : Environment} {trust : Trust} {bytes : List ℕ}
    → Favoured command before after trust bytes → Result JudgedByRule RulesError
verdict_in {command = command} {trust = trust} {bytes = bytes} f =
    verdict_over (asked_for f.favoured.gathered (now_of f.favoured.layout.places command.clock)) (file_of trust)
    f.favoured.layout.way.told bytes

-- ---- what is said and put in its place

-- A rule accepts: the payload is in the statement's place, where one is named, and the report was written whole, with what is asked for
-- behind it.
pub record SaysReport {command : Command} {before after : Environment} {trust : Trust} {bytes : List ℕ}
    (f : Favoured command before after trust bytes) (out out' : Watched (List ℕ)) (ended : Status) : Type 0 where
  pub judged : JudgedByRule
  pub verdict : verdict_in f ≡ Ok judged
  pub given : IsGiven f.layout.outputs.statement f.favoured.gathered.bundle before.outside.shelf after.outside.shelf
  pub text : List ℕ
  pub reported : way_text trust judged (telling_of f.favoured.gathered f.favoured.layout.way.told) ≡ Ok text
  pub written : TakesAll out out' (told_text None f.layout.outputs.details f.favoured.gathered.bundle judged text)
  pub ended_is : ended ≡ status.Accepted

-- A rule accepts, and the bundle, whose statement is asked for, has a message signature: the line that says so was written whole.
pub record SaysNoEnvelope {command : Command} {before after : Environment} {trust : Trust} {bytes : List ℕ}
    (f : Favoured command before after trust bytes) (out out' : Watched (List ℕ)) (ended : Status) : Type 0 where
  pub judged : JudgedByRule
  pub verdict : verdict_in f ≡ Ok judged
  pub path : List ℕ
  pub named : f.layout.outputs.statement ≡ Some path
  pub message : payload_of f.favoured.gathered.bundle ≡ Ok None
  pub untouched : IsUntouched before after
  pub written : TakesAll out out' no_envelope_answer.text
  pub ended_is : ended ≡ status.Refused

-- No rule accepts: the refusal was written whole.
pub record SaysRefusal {command : Command} {before after : Environment} {trust : Trust} {bytes : List ℕ}
    (f : Favoured command before after trust bytes) (out out' : Watched (List ℕ)) (ended : Status) : Type 0 where
  pub refusal : RulesError
  pub verdict : verdict_in f ≡ Err refusal
  pub untouched : IsUntouched before after
  pub written : TakesAll out out' (refused_answer refusal).text
  pub ended_is : ended ≡ status.Refused

-- Where a trusted root is offered and nothing outside fails, the run does one of these, by the verdict and the bundle alone; or it is out
-- of memory, with status 5; or the sink or the shelf failed, with status 4.
abbrev pub Completes : Command → Environment → Environment → Watched (List ℕ) → Watched (List ℕ) → Status → Type 0
Completes command before after out out' ended =
    (trust : Trust) (bytes : List ℕ) (f : Favoured command before after trust bytes)
    → (ended ≡ status.Memory)
    ⊎ (((ended ≡ status.Output) × (Rose out.faults out'.faults ⊎ Rose before.outside.shelf.faults after.outside.shelf.faults))
    ⊎ (SaysReport f out out' ended ⊎ (SaysNoEnvelope f out out' ended ⊎ SaysRefusal f out out' ended)))
