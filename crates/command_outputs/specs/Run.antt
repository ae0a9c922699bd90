-- A run of `verify` that is asked for more than the report: what it goes to, and what it says.
use Rattle.std.specs.Prelude.{ℕ, List, None, Result}
use Rattle.jiff_core.specs.declared.timestamp.Timestamp as jiff
use Rattle.foundation.specs.Watched.{Watched}
use Rattle.foundation.specs.declared.no_memory.NoMemory.{NoMemory as OutOfMemory}
use Rattle.sigstore_tuf_outside.specs.Repository.{Files, Folders}
use Rattle.command_files.specs.Ending.{SaysAndEnds}
use Rattle.command_files.specs.Gather.{gathered_of}
use Rattle.command_files.specs.Inputs.{Supply}
use Rattle.command_files.specs.Starting as start
use Rattle.command_files.specs.Starting.{Command, now_of, Decides}
use Rattle.command_files.specs.declared.answer.Answer.{Answer}
use Rattle.command_files.specs.declared.answer.Status.{Status}
use Rattle.command_files.specs.declared.gather.Gathered.{Gathered}
use Rattle.command_verify.specs.Run.{given_by}
use Rattle.command_download.specs.declared.shelf.Placed.{Placed}
use Rattle.command_ways.specs.Judging as ways
use Rattle.command_ways.specs.Judging.{VerifiesWay}
use Rattle.command_ways.specs.Run.{telling_of}
use Rattle.command_ways.specs.Run as run
use Rattle.command_ways.specs.declared.judging.Came.{Came}
use Rattle.command_ways.specs.declared.layout.Way.{Way}
use Rattle.command_outputs.specs.declared.layout.Outputs.{Outputs}
use Rattle.command_outputs.specs.Concluding.{Concludes}
use Rattle.command_outputs.specs.Layout.{others_in, outputs_layout_of}

-- ---- what is given

-- the outside at one moment: what the verification goes to, and where the statement is put
pub record Outside : Type 0 where
  pub verified : ways.Outside
  pub shelf : Watched (List Placed)

abbrev pub outside_by : Watched Folders → Watched Files → Watched (List ℕ) → Watched (List ℕ) → Watched (List Placed) → Outside
outside_by repo store archive source shelf = record { verified = ways.outside_by repo store archive source; shelf = shelf }

-- what a run finds and leaves, but for its output
abbrev pub Environment : Type 0
Environment = start.Environment Outside

abbrev pub environment_by : Supply → Watched Folders → Watched Files → Watched (List ℕ) → Watched (List ℕ) → Watched (List Placed)
    → Environment
environment_by inputs repo store archive source shelf = record { inputs = inputs; outside = outside_by repo store archive source shelf }

-- what a run of `verify` finds and leaves that is asked for no more than the report
abbrev pub verified_in : Environment → run.Environment
verified_in environment = record { inputs = environment.inputs; outside = environment.outside.verified }

-- and its command: the same without the words that ask for more
abbrev pub plain_command : Command → Command
plain_command command = record { words = others_in command.words; clock = command.clock }

-- ---- the run

-- the verification, and what follows it
pub record JudgesOutputs (way : Way) (outputs : Outputs) (gathered : Gathered) (now : jiff.Timestamp) (before after : Outside)
    (result : Result Answer OutOfMemory) : Type 0 where
  pub came : Came
  pub verifies : VerifiesWay (given_by gathered now) way before.verified after.verified came
  pub concludes : Concludes (telling_of gathered way.told) None outputs gathered.bundle came before.shelf after.shelf result

-- the words first, then the inputs, then the verification; the first that refuses answers
abbrev pub Says : Command → Environment → Environment → Result Answer OutOfMemory → Type 0
Says command before after result =
    Decides (outputs_layout_of command.words) gathered_of (λ said. said)
    (λ layout gathered. JudgesOutputs layout.verification.way layout.outputs gathered (now_of layout.verification.places command.clock))
    before after result

abbrev pub RunsTo : Command → Environment → Environment → Watched (List ℕ) → Watched (List ℕ) → Status → Type 0
RunsTo command before after out out' ended = SaysAndEnds (Says command before after) out out' ended
