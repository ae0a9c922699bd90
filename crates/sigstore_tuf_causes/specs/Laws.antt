-- What a store can put in force and give (TUF specification, section 5): only what is signed, and only what is listed.
use Rattle.std.specs.Prelude.{◌≡◌, ℕ, List, Option, Some, Result, Ok, true, codes}
use Rattle.jiff_core.specs.declared.timestamp.Timestamp as jiff
use Rattle.foundation.specs.Watched.{Watched}
use Rattle.sigstore_keys.specs.Crypto.{Crypto}
use Rattle.sigstore_tuf_text.specs.declared.error.Error.{Error}
use Rattle.sigstore_tuf_parts.specs.declared.root.Root as declared
use Rattle.sigstore_tuf_parts.specs.declared.targets.TargetFile.{TargetFile}
use Rattle.sigstore_tuf_parts.specs.Document.{Document, content_in}
use Rattle.sigstore_tuf_parts.specs.Pinned.{PinnedFile}
use Rattle.sigstore_tuf_parts.specs.RootRoles.{root_document, MeetsRole, IsNextRoot}
use Rattle.sigstore_tuf_rules.specs.declared.kind.Kind.{Kind}
use Rattle.sigstore_tuf_rules.specs.declared.kind.Kind.TheVariants.{Root, Timestamp, Snapshot, Targets}
use Rattle.sigstore_tuf_rules.specs.Documents.{timestamp_document, snapshot_document, targets_document}
use Rattle.sigstore_tuf_outside.specs.Repository.{Files}
use Rattle.sigstore_tuf_rules.specs.Names.{kept_name, kept_target}
use Rattle.sigstore_tuf_runs.specs.State.{State}
use Rattle.sigstore_tuf_rules.specs.Taking.{bytes_in}
use Rattle.sigstore_tuf_runs.specs.Adopt.{Seeds}
use Rattle.sigstore_tuf_runs.specs.Target.{Recalls}
use Rattle.sigstore_tuf_runs.specs.Cause.{HasKept}

-- the bytes read as a document that meets its role in a root
pub record IsSignedBy {T : Type 0} (reads : List ℕ → Result (Document T) Error) (crypto : Crypto) (root : declared.Root)
    (role bytes : List ℕ) : Type 0 where
  pub doc : Document T
  pub read : reads bytes ≡ Ok doc
  pub met : MeetsRole crypto root role doc

-- the bytes read as the next root after this one
pub record IsHandedOn (crypto : Crypto) (root : Document declared.Root) (bytes : List ℕ) : Type 0 where
  pub doc : Document declared.Root
  pub read : root_document bytes ≡ Ok doc
  pub next : IsNextRoot crypto root doc

-- what a document of each kind has to be under the root in force
abbrev pub IsSignedAs : Crypto → Document declared.Root → Kind → List ℕ → Type 0
IsSignedAs crypto root (Root number) bytes = IsHandedOn crypto root bytes
IsSignedAs crypto root Timestamp bytes = IsSignedBy timestamp_document crypto (content_in root) (codes "timestamp") bytes
IsSignedAs crypto root Snapshot bytes = IsSignedBy snapshot_document crypto (content_in root) (codes "snapshot") bytes
IsSignedAs crypto root Targets bytes = IsSignedBy targets_document crypto (content_in root) (codes "targets") bytes

-- A document of a store that is put in force stood there under its name, and meets its role in the root then in force.
pub record IsSeededSigned (crypto : Crypto) (kind : Kind) (old new : State) : Type 0 where
  pub bytes : List ℕ
  pub kept : HasKept old.store (kept_name kind) bytes
  pub in_force : bytes_in kind new.documents ≡ Some bytes
  pub signed : IsSignedAs crypto old.documents.root kind bytes

abbrev pub SeedsAreSigned : Type 0
SeedsAreSigned = (crypto : Crypto) (kind : Kind) (now : Option jiff.Timestamp) (old new : State)
    → Seeds crypto kind now old new (Ok true) → IsSeededSigned crypto kind old new

-- A file of a store that is given stood there under its name, and has the listed length and digests.
pub record IsRecalledPinned (entry : TargetFile) (path : List ℕ) (old : Watched Files) (bytes : List ℕ) : Type 0 where
  pub kept : HasKept old (kept_target path) bytes
  pub pinned : PinnedFile bytes entry

abbrev pub RecallsArePinned : Type 0
RecallsArePinned = (entry : TargetFile) (path : List ℕ) (old new : Watched Files) (bytes : List ℕ)
    → Recalls entry path old new (Ok (Some bytes)) → IsRecalledPinned entry path old bytes
