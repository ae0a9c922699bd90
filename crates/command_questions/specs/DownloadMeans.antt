-- What a run over targets asks and writes: the rows that were noted, which suffice, and nothing else; or the line of a stop.
use Rattle.std.specs.Prelude.{ℕ, List, Result, Ok}
use Rattle.jiff_core.specs.declared.timestamp.Timestamp as jiff
use Rattle.foundation.specs.Watched.{Watched}
use Rattle.foundation.specs.declared.no_memory.NoMemory.{NoMemory}
use Rattle.sigstore_tuf_rules.specs.Config.{default_config}
use Rattle.sigstore_verify.specs.Inputs.{anchor_by}
use Rattle.command_files.specs.Ending.{SaysAndEnds}
use Rattle.command_files.specs.Gather.{anchored_of}
use Rattle.command_files.specs.Starting.{Command, now_of}
use Rattle.command_files.specs.Tables.{crypto_of}
use Rattle.command_files.specs.declared.answer.Answer.{Answer}
use Rattle.command_files.specs.declared.answer.Status.{Status}
use Rattle.command_files.specs.declared.gather.Anchored.{Anchored}
use Rattle.command_files.specs.declared.tables.Tables.{Tables}
use Rattle.question_notes.specs.Believing.{believing}
use Rattle.command_download.specs.declared.chains.Chains.{Chains}
use Rattle.command_download.specs.declared.layout.Download.{Download}
use Rattle.command_download.specs.declared.layout.DownloadLayout.{DownloadLayout}
use Rattle.command_download.specs.Chains.{anchor_with, Comes}
use Rattle.command_download.specs.Client.{Outside}
use Rattle.command_download.specs.Layout.{asked_download_layout_of}
use Rattle.command_download.specs.Run.{Environment}
use Rattle.command_questions.specs.Means.{SaysOf, WritesOf}
use Rattle.command_questions.specs.Suffice.{SufficeForTargets}

-- What was run is the client under these inputs at the moment, for whom the signatures of the file `refused` aren't good and all others
-- are. What it came to is told to nobody, but the rows suffice for it. Its shelf tells nothing: no file is put in place.
pub record Asks (anchored : Anchored) (downloads : List Download) (now : jiff.Timestamp) (rows : Tables) (before after : Outside)
    : Type 0 where
  pub had : Chains
  pub comes : Comes (anchor_with (believing anchored.tables.provider.rows) anchored.root now) downloads before after had
  pub suffice : SufficeForTargets (anchor_by (crypto_of rows) anchored.root default_config now) downloads (Ok had)

-- by what the words and the inputs ask for
abbrev pub AsksFor : Command → DownloadLayout → Anchored → Tables → Outside → Outside → Type 0
AsksFor command layout anchored rows before after =
    Asks anchored layout.downloads (now_of layout.places command.clock) rows before after

-- what is said: the words first, then the inputs, and then the rows
abbrev pub Says : Command → Environment → Environment → Result Answer NoMemory → Type 0
Says command before after result = SaysOf (asked_download_layout_of command.words) anchored_of (AsksFor command) before after result

-- a run: what is said is written
abbrev pub RunsTo : Command → Environment → Environment → Watched (List ℕ) → Watched (List ℕ) → Status → Type 0
RunsTo command before after out out' ended = SaysAndEnds (Says command before after) out out' ended

-- what status 0 means: the words and the inputs were read, the targets were had as if all but the refused signatures were good, and
-- the sink took exactly a text of questions, which suffice for the chains that the run came to
abbrev pub WritesRows : Command → Environment → Environment → Watched (List ℕ) → Watched (List ℕ) → Type 0
WritesRows command before after out out' =
    WritesOf (asked_download_layout_of command.words) anchored_of (AsksFor command) before after out out'
