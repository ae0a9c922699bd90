-- A run of `archive`: what it says, and why.
use Rattle.std.specs.Prelude.{◌≡◌, ◌≢◌, ℕ, List, Result, Ok, Err, IfOk}
use Rattle.foundation.specs.Watched.{Watched, Rose}
use Rattle.foundation.specs.declared.no_memory.NoMemory.{NoMemory}
use Rattle.sigstore_tuf_text.specs.declared.error.Error.{Error as TufError}
use Rattle.sigstore_tuf_text.specs.declared.error.Error.TheVariants as tuf
use Rattle.sigstore_tuf_outside.specs.Repository.{Files, Folders}
use Rattle.sigstore_tuf_rules.specs.declared.chain.TrustChain.{TrustChain}
use Rattle.sigstore_verify.specs.Inputs.{Anchor, Places, places_by}
use Rattle.sigstore_verify.specs.Promises.{PromisesChain}
use Rattle.trust_archive.specs.declared.error.ArchiveError.{ArchiveError}
use Rattle.trust_archive.specs.Spelling.{spelling_of}
use Rattle.command_files.specs.Ending.{TakesAll}
use Rattle.command_files.specs.Gather.{anchored_of}
use Rattle.command_files.specs.Inputs.{Supply}
use Rattle.command_files.specs.Starting as start
use Rattle.command_files.specs.Starting.{Command, now_of, Decides}
use Rattle.command_files.specs.declared.answer.Status.{Status}
use Rattle.command_files.specs.declared.answer.Status.TheVariants as status
use Rattle.command_verify.specs.Run.{tuf_answer, anchor_of}
use Rattle.command_archive.specs.declared.output.Output.{Output}
use Rattle.command_archive.specs.declared.output.Output.TheVariants.{Lines, Archive}
use Rattle.command_archive.specs.Layout.{archive_layout_of}
use Rattle.command_archive.specs.Output.{status_of, octets_of}
use Rattle.command_archive.specs.Reading.{archive_answer}

-- what a run finds and leaves, but for its output
abbrev pub Environment : Type 0
Environment = start.Environment Places

abbrev pub environment_by : Supply → Watched Folders → Watched Files → Environment
environment_by inputs repo store = record { inputs = inputs; outside = places_by repo store }

-- the archive of a chain; or the refusal of one that has none
abbrev pub spelled : Result (List ℕ) ArchiveError → Output
spelled (Ok bytes) = Archive bytes
spelled (Err e) = Lines (archive_answer e)

-- The chain is walked to, as a verification does, and written.
pub data Walks (anchor : Anchor) (before after : Places) (said : Output) : Type 0 where
  walk_refused : (e : TufError) → e ≢ tuf.NoMemory → PromisesChain anchor before after (Err e) → said ≡ Lines (tuf_answer e)
      → Walks anchor before after said
  walked_to : (chain : TrustChain) → PromisesChain anchor before after (Ok chain) → said ≡ spelled (spelling_of chain)
      → Walks anchor before after said

-- The words first, then the inputs, then the walk.
abbrev pub Says : Command → Environment → Environment → Result Output NoMemory → Type 0
Says command before after result =
    Decides (archive_layout_of command.words) anchored_of Lines
    (λ layout anchored old new said. IfOk said (Walks (anchor_of anchored (now_of layout command.clock)) old new)) before after result

-- what is said was taken whole, and this is its status
pub record SaysWhole (command : Command) (before after : Environment) (out out' : Watched (List ℕ)) (ended : Status) : Type 0 where
  pub said : Output
  pub says : Says command before after (Ok said)
  pub written : TakesAll out out' (octets_of said)
  pub ended_is : ended ≡ status_of said

-- What a status means: of 4 the count of the sink's faults rose, of 5 nothing was written, and of every other what is said was taken whole.
abbrev pub Means : Command → Environment → Environment → Watched (List ℕ) → Watched (List ℕ) → Status → Type 0
Means command before after out out' status.Output = Rose out.faults out'.faults
Means command before after out out' status.Memory = out' ≡ out
Means command before after out out' status.Accepted = SaysWhole command before after out out' status.Accepted
Means command before after out out' status.Refused = SaysWhole command before after out out' status.Refused
Means command before after out out' status.Usage = SaysWhole command before after out out' status.Usage
Means command before after out out' status.Input = SaysWhole command before after out out' status.Input
