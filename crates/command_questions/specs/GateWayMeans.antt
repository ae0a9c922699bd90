-- What a run over a folder asks and writes in any way: the rows that were noted, which suffice, and nothing else; or the line of a stop.
use Rattle.std.specs.Prelude.{⊤, ℕ, List, Result, Err}
use Rattle.jiff_core.specs.declared.timestamp.Timestamp as jiff
use Rattle.foundation.specs.Watched.{Watched}
use Rattle.foundation.specs.declared.no_memory.NoMemory.{NoMemory}
use Rattle.sigstore_judgement.specs.declared.error.Error.TheVariants as verify
use Rattle.sigstore_verify.specs.Inputs.{Anchor}
use Rattle.release_gate.specs.declared.gate.GateFault.TheVariants as gate
use Rattle.command_files.specs.Ending.{SaysAndEnds}
use Rattle.command_files.specs.Gather.{governed_of}
use Rattle.command_files.specs.Starting.{Command, now_of}
use Rattle.command_files.specs.Tables.{crypto_of}
use Rattle.command_files.specs.declared.answer.Answer.{Answer}
use Rattle.command_files.specs.declared.answer.Status.{Status}
use Rattle.command_files.specs.declared.gather.Governed.{Governed}
use Rattle.command_files.specs.declared.tables.Tables.{Tables}
use Rattle.question_notes.specs.Believing.{believing}
use Rattle.command_gate.specs.Run.{given_under}
use Rattle.command_ways.specs.declared.folder_judging.FolderCame.{FolderCame}
use Rattle.command_ways.specs.declared.folder_judging.FolderCame.TheVariants.{Untrusted, Unusable, Judged}
use Rattle.command_ways.specs.declared.folder_words.FolderLayout.{FolderLayout}
use Rattle.command_ways.specs.declared.layout.TrustedBy.{TrustedBy}
use Rattle.command_ways.specs.declared.trust.TrustFault.TheVariants as fault
use Rattle.command_ways.specs.FolderJudging.{FolderOutside, GatesWay}
use Rattle.command_ways.specs.FolderLayout.{asked_folder_layout_of}
use Rattle.command_ways.specs.FolderRun.{Environment}
use Rattle.command_questions.specs.Means.{SaysOf, WritesOf}
use Rattle.command_questions.specs.WaySuffice.{IsTrustedSo}

-- Where it came to a chain, that is trusted by the rows alone, whatever the artifacts are. Where memory was wanting, no rows suffice.
abbrev pub SufficeForFolder : Anchor → FolderCame → Type 0
SufficeForFolder anchor (Untrusted fault.NoMemory) = ⊥
SufficeForFolder anchor (Untrusted e) = ⊤
SufficeForFolder anchor (Unusable trust verify.NoMemory) = ⊥
SufficeForFolder anchor (Unusable trust e) = IsTrustedSo anchor trust
SufficeForFolder anchor (Judged trust (Err gate.NoMemory)) = ⊥
SufficeForFolder anchor (Judged trust judged) = IsTrustedSo anchor trust

-- What was run is the judgement of the folder under these inputs at the moment and in this way, in which the signatures of the file
-- `refused` aren't good and all others are. What it came to is told to nobody, but the rows suffice for it.
pub record Asks (by : TrustedBy) (governed : Governed) (now : jiff.Timestamp) (rows : Tables) (before after : FolderOutside) : Type 0 where
  pub came : FolderCame
  pub gates : GatesWay (given_under (believing governed.anchored.tables.provider.rows) governed now) by before after came
  pub suffice : SufficeForFolder (given_under (crypto_of rows) governed now).anchor came

-- by what the words and the inputs ask for
abbrev pub AsksFor : Command → FolderLayout → Governed → Tables → FolderOutside → FolderOutside → Type 0
AsksFor command layout governed rows before after = Asks layout.by governed (now_of layout.places command.clock) rows before after

-- what is said: the words first, then the inputs, and then the rows
abbrev pub Says : Command → Environment → Environment → Result Answer NoMemory → Type 0
Says command before after result = SaysOf (asked_folder_layout_of command.words) governed_of (AsksFor command) before after result

-- a run: what is said is written
abbrev pub RunsTo : Command → Environment → Environment → Watched (List ℕ) → Watched (List ℕ) → Status → Type 0
RunsTo command before after out out' ended = SaysAndEnds (Says command before after) out out' ended

-- what status 0 means: the words and the inputs were read, the folder was judged as if all but the refused signatures were good, and
-- the sink took exactly a text of questions, which suffice for what it came to
abbrev pub WritesRows : Command → Environment → Environment → Watched (List ℕ) → Watched (List ℕ) → Type 0
WritesRows command before after out out' = WritesOf (asked_folder_layout_of command.words) governed_of (AsksFor command) before after out out'
