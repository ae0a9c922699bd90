-- What a run in any way asks and writes: the rows that were noted, which suffice, and nothing else; or the line of a stop.
use Rattle.std.specs.Prelude.{ℕ, List, Result}
use Rattle.jiff_core.specs.declared.timestamp.Timestamp as jiff
use Rattle.foundation.specs.Watched.{Watched}
use Rattle.foundation.specs.declared.no_memory.NoMemory.{NoMemory}
use Rattle.command_files.specs.Ending.{SaysAndEnds}
use Rattle.command_files.specs.Gather.{gathered_of}
use Rattle.command_files.specs.Starting.{Command, now_of}
use Rattle.command_files.specs.Tables.{crypto_of}
use Rattle.command_files.specs.declared.answer.Answer.{Answer}
use Rattle.command_files.specs.declared.answer.Status.{Status}
use Rattle.command_files.specs.declared.gather.Gathered.{Gathered}
use Rattle.command_files.specs.declared.tables.Tables.{Tables}
use Rattle.question_notes.specs.Believing.{believing}
use Rattle.command_verify.specs.Run.{given_under}
use Rattle.command_ways.specs.declared.judging.Came.{Came}
use Rattle.command_ways.specs.declared.layout.Way.{Way}
use Rattle.command_ways.specs.declared.layout.WayLayout.{WayLayout}
use Rattle.command_ways.specs.Judging.{Outside, VerifiesWay}
use Rattle.command_ways.specs.Layout.{asked_way_layout_of}
use Rattle.command_ways.specs.Run.{Environment}
use Rattle.command_questions.specs.Means.{SaysOf, WritesOf}
use Rattle.command_questions.specs.WaySuffice.{SufficeForWay}

-- What was run is the verification of these inputs in this way, in which the signatures of the file `refused` aren't good and all others
-- are. What it came to is told to nobody, but the rows suffice for it.
pub record Asks (way : Way) (gathered : Gathered) (now : jiff.Timestamp) (rows : Tables) (before after : Outside) : Type 0 where
  pub came : Came
  pub verifies : VerifiesWay (given_under (believing gathered.tables.provider.rows) gathered now) way before after came
  pub suffice : SufficeForWay (given_under (crypto_of rows) gathered now) came

-- by what the words and the inputs ask for
abbrev pub AsksFor : Command → WayLayout → Gathered → Tables → Outside → Outside → Type 0
AsksFor command layout gathered rows before after = Asks layout.way gathered (now_of layout.places command.clock) rows before after

abbrev pub Says : Command → Environment → Environment → Result Answer NoMemory → Type 0
Says command before after result = SaysOf (asked_way_layout_of command.words) gathered_of (AsksFor command) before after result

-- a run: what is said is written
abbrev pub RunsTo : Command → Environment → Environment → Watched (List ℕ) → Watched (List ℕ) → Status → Type 0
RunsTo command before after out out' ended = SaysAndEnds (Says command before after) out out' ended

-- what status 0 means: the words and the inputs were read, the verification was run in which all but the refused signatures are
-- good, and the sink took exactly a text of questions, which suffice for what it came to
abbrev pub WritesRows : Command → Environment → Environment → Watched (List ℕ) → Watched (List ℕ) → Type 0
WritesRows command before after out out' = WritesOf (asked_way_layout_of command.words) gathered_of (AsksFor command) before after out out'
