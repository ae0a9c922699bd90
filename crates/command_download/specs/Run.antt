-- A run of `download`: what it says, and why.
use Rattle.std.specs.Prelude.{◌≡◌, List, [], Option, Some, None, Result, Ok, Err, IfOk}
use Rattle.jiff_core.specs.declared.timestamp.Timestamp as jiff
use Rattle.foundation.specs.Watched.{Watched}
use Rattle.foundation.specs.declared.no_memory.NoMemory as declared
use Rattle.sigstore_tuf_text.specs.declared.error.Error.{Error}
use Rattle.sigstore_tuf_outside.specs.Repository.{Files, Folders}
use Rattle.sigstore_tuf_rules.specs.Config.{default_config}
use Rattle.sigstore_tuf_rules.specs.declared.chain.TrustChain.{TrustChain}
use Rattle.sigstore_tuf_rules.specs.declared.documents.InForce.{InForce}
use Rattle.sigstore_tuf_runs.specs.State.{Session, session_of}
use Rattle.command_files.specs.Answer.{answer}
use Rattle.command_files.specs.Gather.{anchored_of}
use Rattle.command_files.specs.Inputs.{Supply}
use Rattle.command_files.specs.Starting as start
use Rattle.command_files.specs.Starting.{Command, now_of, Decides}
use Rattle.command_files.specs.Tables.{crypto_of}
use Rattle.command_files.specs.declared.answer.Answer.{Answer}
use Rattle.command_files.specs.declared.answer.Status.TheVariants as status
use Rattle.command_files.specs.declared.gather.Anchored.{Anchored}
use Rattle.command_download.specs.declared.fault.DownloadFault.{DownloadFault}
use Rattle.command_download.specs.declared.fault.DownloadFault.TheVariants.{Tuf, Unplaced, NoMemory}
use Rattle.command_download.specs.declared.layout.Download.{Download}
use Rattle.command_download.specs.declared.shelf.Placed.{Placed}
use Rattle.command_download.specs.Client.{Anchor, anchor_by, Outside, outside_by, fault_of, Refreshes, DeliversEach}
use Rattle.command_download.specs.Layout.{download_layout_of}
use Rattle.command_download.specs.Report.{report_of, refusal_of, unplaced_of}

-- ---- what a run is given, finds and leaves

abbrev pub Environment : Type 0
Environment = start.Environment Outside

abbrev pub environment_by : Supply → Watched Folders → Watched Files → Watched (List Placed) → Environment
environment_by inputs repo store shelf = record { inputs = inputs; outside = outside_by repo store shelf }

-- from what documents are trusted: the tables, the client's limits, the moment, and the root that was read
abbrev pub anchor_of : Anchored → jiff.Timestamp → Anchor
anchor_of anchored now = anchor_by (session_of (crypto_of anchored.tables) default_config now) anchored.root

-- ---- what is said

-- of a run that was stopped behind these chains; nothing where memory is wanting
abbrev pub stop_answer : List Download → List TrustChain → DownloadFault → Option Answer
stop_answer downloads chains (Tuf e) = Some (answer status.Refused (refusal_of downloads chains e))
stop_answer downloads chains Unplaced = Some (answer status.Output (unplaced_of downloads chains))
stop_answer downloads chains NoMemory = None

abbrev pub answer_of : InForce → List Download → List TrustChain → Option DownloadFault → Option Answer
answer_of set downloads chains None = Some (answer status.Accepted (report_of set downloads chains))
answer_of set downloads chains (Some fault) = stop_answer downloads chains fault

-- ---- the run

-- The targets in turn, and what is said of them.
pub record Tells (session : Session) (set : InForce) (downloads : List Download) (before after : Outside)
    (result : Result Answer declared.NoMemory) : Type 0 where
  pub chains : List TrustChain
  pub stop : Option DownloadFault
  pub delivers : DeliversEach session set downloads before after chains stop
  pub said : IfOk result (λ said. answer_of set downloads chains stop ≡ Some said)

-- The documents are brought up to date once, and then the targets are had in turn.
pub data Runs (anchor : Anchor) (downloads : List Download) (before after : Outside) (result : Result Answer declared.NoMemory)
    : Type 0 where
  unrefreshed : (e : Error) → Refreshes anchor before after (Err e)
      → IfOk result (λ said. stop_answer downloads [] (fault_of e) ≡ Some said) → Runs anchor downloads before after result
  told : (mid : Outside) (set : InForce) → Refreshes anchor before mid (Ok set)
      → Tells anchor.session set downloads mid after result → Runs anchor downloads before after result

-- The words first, then the inputs, then the run.
abbrev pub Says : Command → Environment → Environment → Result Answer declared.NoMemory → Type 0
Says command before after result =
    Decides (download_layout_of command.words) anchored_of (λ said. said)
    (λ layout anchored. Runs (anchor_of anchored (now_of layout.places command.clock)) layout.downloads) before after result
