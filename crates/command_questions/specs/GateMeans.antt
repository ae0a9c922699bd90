-- What a run over a folder asks and writes: the rows that were noted, which suffice, and nothing else; or the line of a stop.
use Rattle.std.specs.Prelude.{◌≡◌, ℕ, List, Result}
use Rattle.jiff_core.specs.declared.timestamp.Timestamp as jiff
use Rattle.foundation.specs.Watched.{Watched}
use Rattle.foundation.specs.declared.no_memory.NoMemory.{NoMemory}
use Rattle.release_gate.specs.Gate.{Outside}
use Rattle.release_gate.specs.Promises.{Promises}
use Rattle.release_gate.specs.declared.gate.Gated.{Gated}
use Rattle.release_gate.specs.declared.gate.GateFault.{GateFault}
use Rattle.command_files.specs.Ending.{SaysAndEnds}
use Rattle.command_files.specs.Gather.{governed_of}
use Rattle.command_files.specs.Starting.{Command, now_of}
use Rattle.command_files.specs.Tables.{crypto_of}
use Rattle.command_files.specs.declared.answer.Answer.{Answer}
use Rattle.command_files.specs.declared.answer.Status.{Status}
use Rattle.command_files.specs.declared.gather.Governed.{Governed}
use Rattle.command_files.specs.declared.layout.Layout.{Layout}
use Rattle.command_files.specs.declared.tables.Tables.{Tables}
use Rattle.question_notes.specs.Believing.{believing}
use Rattle.command_gate.specs.Layout.{asked_gate_layout_of}
use Rattle.command_gate.specs.Run.{Environment, given_under}
use Rattle.command_questions.specs.Means.{SaysOf, WritesOf}
use Rattle.command_questions.specs.Suffice.{SufficeForFolder}

-- What was run is the judgement of the folder under these inputs at the moment, in which the signatures of the file `refused` aren't good
-- and all others are. What it came to is told to nobody, but the rows suffice for it.
pub record Asks (governed : Governed) (now : jiff.Timestamp) (rows : Tables) (before after : Outside) : Type 0 where
  pub judged : Result Gated GateFault
  pub promises : Promises (given_under (believing governed.anchored.tables.provider.rows) governed now) before after judged
  pub suffice : SufficeForFolder (given_under (crypto_of rows) governed now).anchor judged

-- by what the words and the inputs ask for
abbrev pub AsksFor : Command → Layout → Governed → Tables → Outside → Outside → Type 0
AsksFor command layout governed rows before after = Asks governed (now_of layout command.clock) rows before after

-- what is said: the words first, then the inputs, and then the rows
abbrev pub Says : Command → Environment → Environment → Result Answer NoMemory → Type 0
Says command before after result = SaysOf (asked_gate_layout_of command.words) governed_of (AsksFor command) before after result

-- a run: what is said is written
abbrev pub RunsTo : Command → Environment → Environment → Watched (List ℕ) → Watched (List ℕ) → Status → Type 0
RunsTo command before after out out' ended = SaysAndEnds (Says command before after) out out' ended

-- what status 0 means: the words and the inputs were read, the folder was judged as if all but the refused signatures were good, and
-- the sink took exactly a text of questions, which suffice for what it came to
abbrev pub WritesRows : Command → Environment → Environment → Watched (List ℕ) → Watched (List ℕ) → Type 0
WritesRows command before after out out' = WritesOf (asked_gate_layout_of command.words) governed_of (AsksFor command) before after out out'
