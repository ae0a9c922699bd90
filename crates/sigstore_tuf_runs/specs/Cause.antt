-- What each refusal of the client tells: of the documents that were had, and of those in force at the call's end
-- (TUF specification, section 5).
use Rattle.std.specs.Prelude.{◌≡◌, ◌≢◌, ℕ, ◌+◌, ◌-◌, ◌^◌, ◌<◌, ◌≤◌, List, length, Some, None, Ok, Contains, codes, ⊤}
use Rattle.jiff_core.specs.declared.timestamp.Timestamp as jiff
use Rattle.foundation.specs.Watched.{Watched, Rose, IfTold}
use Rattle.sigstore_types_parts.specs.Entries.{at_name}
use Rattle.sigstore_keys.specs.Crypto.{Crypto}
use Rattle.sigstore_tuf_text.specs.declared.error.Error.{Error}
use Rattle.sigstore_tuf_text.specs.declared.error.Error.TheVariants as tuf
use Rattle.sigstore_tuf_text.specs.declared.error.Mismatch.TheVariants as mismatch
use Rattle.sigstore_tuf_text.specs.declared.error.Rule.TheVariants as rule
use Rattle.sigstore_tuf_text.specs.declared.error.TransportFault.{TransportFault}
use Rattle.sigstore_tuf_text.specs.declared.error.TransportFault.TheVariants as transport
use Rattle.sigstore_tuf_parts.specs.declared.root.Root as declared_root
use Rattle.sigstore_tuf_parts.specs.declared.snapshot.Snapshot as declared_snapshot
use Rattle.sigstore_tuf_parts.specs.declared.targets.Targets as declared_targets
use Rattle.sigstore_tuf_parts.specs.declared.timestamp.MetaFile.{MetaFile}
use Rattle.sigstore_tuf_parts.specs.declared.timestamp.Timestamp as declared_timestamp
use Rattle.sigstore_tuf_parts.specs.Cause.{ReadCause, RoleCause, IntegrityCause, ExpiryCause}
use Rattle.sigstore_tuf_parts.specs.Document.{Document, content_in}
use Rattle.sigstore_tuf_text.specs.Names.{root_name}
use Rattle.sigstore_tuf_parts.specs.Pinned.{Fresh}
use Rattle.sigstore_tuf_parts.specs.Root.{root_of}
use Rattle.sigstore_tuf_parts.specs.RootRoles.{root_document}
use Rattle.sigstore_tuf_parts.specs.Snapshot.{snapshot_of}
use Rattle.sigstore_tuf_parts.specs.Targets.{targets_of}
use Rattle.sigstore_tuf_parts.specs.Timestamp.{timestamp_of}
use Rattle.sigstore_tuf_rules.specs.declared.documents.Held.{Held}
use Rattle.sigstore_tuf_rules.specs.declared.documents.InForce.{InForce}
use Rattle.sigstore_tuf_rules.specs.declared.kind.Kind.{Kind}
use Rattle.sigstore_tuf_rules.specs.declared.kind.Kind.TheVariants.{Root, Timestamp, Snapshot, Targets}
use Rattle.sigstore_tuf_rules.specs.Documents.{timestamp_document, snapshot_document, targets_document, content_of, snapshot_pin, targets_pin}
use Rattle.sigstore_tuf_outside.specs.Repository.{Folders, Files, metadata_files}
use Rattle.sigstore_tuf_rules.specs.Names.{file_name, IsNameOf, max_length, kept_name}
use Rattle.sigstore_tuf_runs.specs.State.{Session, State}
use Rattle.sigstore_tuf_rules.specs.Taking.{bytes_in}
use Rattle.sigstore_tuf_rules.specs.Serving.{version_in}

-- ---- the documents that were had

-- the told files have these bytes under the name
abbrev pub Has : (Folders → Files) → Watched Folders → List ℕ → List ℕ → Type 0
Has part seen name bytes = IfTold seen.told (λ folders. part folders name ≡ Some bytes)

abbrev pub HasKept : Watched Files → List ℕ → List ℕ → Type 0
HasKept seen name bytes = IfTold seen.told (λ files. files name ≡ Some bytes)

-- they are those of the document in force; a root's number is that of its name
abbrev pub IsInForce : InForce → Kind → List ℕ → Type 0
IsInForce set (Root number) bytes = (bytes_in (Root number) set ≡ Some bytes) × (root_name number ≡ root_name (version_in set))
IsInForce set Timestamp bytes = bytes_in Timestamp set ≡ Some bytes
IsInForce set Snapshot bytes = bytes_in Snapshot set ≡ Some bytes
IsInForce set Targets bytes = bytes_in Targets set ≡ Some bytes

-- A document was had: a told repository has it under a name of its kind, or a told store under its name there, or it was in force.
pub data Had (state : State) (k : Kind) (bytes : List ℕ) : Type 0 where
  in_repository : (name : List ℕ) → IsNameOf k name → Has metadata_files state.repo name bytes → Had state k bytes
  in_store : HasKept state.store (kept_name k) bytes → Had state k bytes
  in_force : IsInForce state.documents k bytes → Had state k bytes

-- what is in force at the end was had at the beginning
abbrev pub WasHad : State → State → Kind → Type 0
WasHad old new k = (bytes : List ℕ) × IsInForce new.documents k bytes × Had old k bytes

-- ---- the documents before a document

-- a timestamp is in force, isn't expired, and pins the snapshot
pub record HasTimestamp (now : jiff.Timestamp) (set : InForce) : Type 0 where
  pub held : Held declared_timestamp.Timestamp
  pub there : set.timestamp ≡ Some held
  pub fresh : Fresh (content_of held).expires now
  pub pin : MetaFile
  pub pin_is : snapshot_pin (content_of held) ≡ Some pin

-- and the snapshot of its version is in force, and isn't expired
pub record HasSnapshot (now : jiff.Timestamp) (set : InForce) : Type 0 where
  pub timestamp : HasTimestamp now set
  pub held : Held declared_snapshot.Snapshot
  pub there : set.snapshot ≡ Some held
  pub fresh : Fresh (content_of held).expires now
  pub version_is : (content_of held).version ≡ timestamp.pin.version

-- The documents before one of this kind are in force, and aren't expired. A next root follows the root in force, expired or not.
abbrev pub IsBefore : Kind → jiff.Timestamp → InForce → Type 0
IsBefore (Root number) now set = (number ≡ version_in set + 1) × (version_in set ≢ 2 ^ 64 - 1)
IsBefore Timestamp now set = Fresh (content_in set.root).expires now
IsBefore Snapshot now set = Fresh (content_in set.root).expires now × HasTimestamp now set
IsBefore Targets now set = Fresh (content_in set.root).expires now × HasSnapshot now set

-- ---- what is wrong with a document, under those in force

-- bytes that aren't a next root
pub data RootRefusal (crypto : Crypto) (set : InForce) (bytes : List ℕ) (e : Error) : Type 0 where
  root_unread : ReadCause (codes "root") root_of bytes e → RootRefusal crypto set bytes e
  root_misnumbered : (doc : Document declared_root.Root) → root_document bytes ≡ Ok doc
      → e ≡ tuf.BadRootVersion (version_in set) (content_in doc).version → (content_in doc).version ≢ version_in set + 1
      → RootRefusal crypto set bytes e
  root_not_handed_on : (doc : Document declared_root.Root) → root_document bytes ≡ Ok doc
      → RoleCause crypto (content_in set.root) (codes "root") doc e → RootRefusal crypto set bytes e
  root_unmet : (doc : Document declared_root.Root) → root_document bytes ≡ Ok doc
      → RoleCause crypto (content_in doc) (codes "root") doc e → RootRefusal crypto set bytes e

-- the refusal tells both numbers, of which the new one is lower
abbrev pub IsLower : List ℕ → ℕ → ℕ → Error → Type 0
IsLower role trusted new e = (e ≡ tuf.Rollback role trusted new) × (new < trusted)

-- bytes that aren't a newer timestamp
pub data TimestampRefusal (crypto : Crypto) (set : InForce) (now : jiff.Timestamp) (bytes : List ℕ) (e : Error) : Type 0 where
  timestamp_unread : ReadCause (codes "timestamp") timestamp_of bytes e → TimestampRefusal crypto set now bytes e
  timestamp_unmet : (doc : Document declared_timestamp.Timestamp) → timestamp_document bytes ≡ Ok doc
      → RoleCause crypto (content_in set.root) (codes "timestamp") doc e → TimestampRefusal crypto set now bytes e
  timestamp_lower : (doc : Document declared_timestamp.Timestamp) (held : Held declared_timestamp.Timestamp)
      → timestamp_document bytes ≡ Ok doc → set.timestamp ≡ Some held
      → IsLower (codes "timestamp") (content_of held).version (content_in doc).version e → TimestampRefusal crypto set now bytes e
  snapshot_pin_lower : (doc : Document declared_timestamp.Timestamp) (held : Held declared_timestamp.Timestamp) (old new : MetaFile)
      → timestamp_document bytes ≡ Ok doc → set.timestamp ≡ Some held
      → snapshot_pin (content_of held) ≡ Some old → snapshot_pin (content_in doc) ≡ Some new
      → IsLower (codes "snapshot") old.version new.version e → TimestampRefusal crypto set now bytes e
  timestamp_expired : (doc : Document declared_timestamp.Timestamp) → timestamp_document bytes ≡ Ok doc
      → ExpiryCause (codes "timestamp") (content_in doc).expires now e → TimestampRefusal crypto set now bytes e

-- the timestamp in force pins the snapshot so, and the snapshot the targets document
abbrev pub PinsSnapshot : InForce → MetaFile → Type 0
PinsSnapshot set pin =
    (held : Held declared_timestamp.Timestamp) × (set.timestamp ≡ Some held) × (snapshot_pin (content_of held) ≡ Some pin)

abbrev pub PinsTargets : InForce → MetaFile → Type 0
PinsTargets set pin = (held : Held declared_snapshot.Snapshot) × (set.snapshot ≡ Some held) × (targets_pin (content_of held) ≡ Some pin)

-- the refusal tells of the version, which isn't the pin's
abbrev pub IsOfAnotherVersion : MetaFile → ℕ → Error → Type 0
IsOfAnotherVersion pin version e = (e ≡ tuf.IntegrityMismatch mismatch.Version) × (version ≢ pin.version)

-- bytes that aren't the pinned snapshot, or a lower one
pub data SnapshotRefusal (crypto : Crypto) (set : InForce) (now : jiff.Timestamp) (bytes : List ℕ) (e : Error) : Type 0 where
  snapshot_differs : (pin : MetaFile) → PinsSnapshot set pin → IntegrityCause pin.length pin.hashes bytes e
      → SnapshotRefusal crypto set now bytes e
  snapshot_unread : ReadCause (codes "snapshot") snapshot_of bytes e → SnapshotRefusal crypto set now bytes e
  snapshot_unmet : (doc : Document declared_snapshot.Snapshot) → snapshot_document bytes ≡ Ok doc
      → RoleCause crypto (content_in set.root) (codes "snapshot") doc e → SnapshotRefusal crypto set now bytes e
  snapshot_version : (pin : MetaFile) (doc : Document declared_snapshot.Snapshot) → PinsSnapshot set pin
      → snapshot_document bytes ≡ Ok doc → IsOfAnotherVersion pin (content_in doc).version e → SnapshotRefusal crypto set now bytes e
  pin_vanished : (doc : Document declared_snapshot.Snapshot) (held : Held declared_snapshot.Snapshot) (name : List ℕ) (pin : MetaFile)
      → snapshot_document bytes ≡ Ok doc → set.snapshot ≡ Some held → Contains (content_of held).meta (name, pin)
      → at_name name (content_in doc).meta ≡ None → e ≡ tuf.IntegrityMismatch mismatch.Vanished → SnapshotRefusal crypto set now bytes e
  pin_lower : (doc : Document declared_snapshot.Snapshot) (held : Held declared_snapshot.Snapshot) (name : List ℕ) (old new : MetaFile)
      → snapshot_document bytes ≡ Ok doc → set.snapshot ≡ Some held → Contains (content_of held).meta (name, old)
      → at_name name (content_in doc).meta ≡ Some new → IsLower name old.version new.version e → SnapshotRefusal crypto set now bytes e
  snapshot_expired : (doc : Document declared_snapshot.Snapshot) → snapshot_document bytes ≡ Ok doc
      → ExpiryCause (codes "snapshot") (content_in doc).expires now e → SnapshotRefusal crypto set now bytes e

-- bytes that aren't the pinned targets document
pub data TargetsRefusal (crypto : Crypto) (set : InForce) (now : jiff.Timestamp) (bytes : List ℕ) (e : Error) : Type 0 where
  targets_differ : (pin : MetaFile) → PinsTargets set pin → IntegrityCause pin.length pin.hashes bytes e
      → TargetsRefusal crypto set now bytes e
  targets_unread : ReadCause (codes "targets") targets_of bytes e → TargetsRefusal crypto set now bytes e
  targets_version : (pin : MetaFile) (doc : Document declared_targets.Targets) → PinsTargets set pin
      → targets_document bytes ≡ Ok doc → IsOfAnotherVersion pin (content_in doc).version e → TargetsRefusal crypto set now bytes e
  targets_unmet : (doc : Document declared_targets.Targets) → targets_document bytes ≡ Ok doc
      → RoleCause crypto (content_in set.root) (codes "targets") doc e → TargetsRefusal crypto set now bytes e
  targets_expired : (doc : Document declared_targets.Targets) → targets_document bytes ≡ Ok doc
      → ExpiryCause (codes "targets") (content_in doc).expires now e → TargetsRefusal crypto set now bytes e

abbrev pub Refusal : Crypto → jiff.Timestamp → InForce → Kind → List ℕ → Error → Type 0
Refusal crypto now set (Root number) bytes e = RootRefusal crypto set bytes e
Refusal crypto now set Timestamp bytes e = TimestampRefusal crypto set now bytes e
Refusal crypto now set Snapshot bytes e = SnapshotRefusal crypto set now bytes e
Refusal crypto now set Targets bytes e = TargetsRefusal crypto set now bytes e

-- ---- what the repository didn't give

-- why a file wasn't had
abbrev pub TransportCause : (Folders → Files) → List ℕ → ℕ → Watched Folders → Watched Folders → TransportFault → Type 0
TransportCause part name max old new transport.Failed = Rose old.faults new.faults
TransportCause part name max old new transport.Absent = IfTold old.told (λ folders. part folders name ≡ None)
TransportCause part name max old new (transport.TooLong limit seen) =
    (limit ≡ max) × (max < seen) × IfTold old.told (λ folders. (bytes : List ℕ) × (part folders name ≡ Some bytes) × (seen ≡ length bytes))
TransportCause part name max old new (transport.Rotations limit) = ⊥

-- a next root may be absent
abbrev pub MayNotLack : Kind → TransportFault → Type 0
MayNotLack (Root number) fault = fault ≢ transport.Absent
MayNotLack Timestamp fault = ⊤
MayNotLack Snapshot fault = ⊤
MayNotLack Targets fault = ⊤

-- ---- why a refresh refuses

-- A document that the repository has, or that it didn't give, by the name that those in force at the end give it, is refused by
-- these; so many next roots were adopted as the limit allows, and there is another number; or a document in force at the end, which
-- was had, doesn't serve. What comes before a document is in force, and fresh.
pub data RefreshCause (session : Session) (old new : State) (e : Error) : Type 0 where
  refused : (k : Kind) (bytes : List ℕ) → Has metadata_files old.repo (file_name new.documents k) bytes
      → IsBefore k session.now new.documents
      → Refusal session.crypto session.now new.documents k bytes e → RefreshCause session old new e
  unfetched : (k : Kind) (fault : TransportFault) → IsBefore k session.now new.documents
      → TransportCause metadata_files (file_name new.documents k) (max_length session.config k) old.repo new.repo fault
      → MayNotLack k fault → e ≡ tuf.Transport fault → RefreshCause session old new e
  rotated : e ≡ tuf.Transport (transport.Rotations session.config.max_root_rotations)
      → version_in old.documents + session.config.max_root_rotations ≤ version_in new.documents
      → version_in new.documents ≢ 2 ^ 64 - 1 → RefreshCause session old new e
  root_expired : WasHad old new (Root (version_in new.documents))
      → ExpiryCause (codes "root") (content_in new.documents.root).expires session.now e → RefreshCause session old new e
  snapshot_unpinned : (held : Held declared_timestamp.Timestamp) → WasHad old new Timestamp → IsBefore Timestamp session.now new.documents
      → new.documents.timestamp ≡ Some held → snapshot_pin (content_of held) ≡ None → e ≡ tuf.Malformed rule.Unpinned
      → RefreshCause session old new e
  kept_expired : (held : Held declared_timestamp.Timestamp) → WasHad old new Timestamp → IsBefore Timestamp session.now new.documents
      → new.documents.timestamp ≡ Some held → ExpiryCause (codes "timestamp") (content_of held).expires session.now e
      → RefreshCause session old new e
  targets_unpinned : (held : Held declared_snapshot.Snapshot) → WasHad old new Snapshot → IsBefore Snapshot session.now new.documents
      → new.documents.snapshot ≡ Some held → targets_pin (content_of held) ≡ None → e ≡ tuf.Malformed rule.Unpinned
      → RefreshCause session old new e
  wanting : e ≡ tuf.NoMemory → RefreshCause session old new e

-- ---- why a first root is refused

pub data FirstCause (crypto : Crypto) (given : List ℕ) (e : Error) : Type 0 where
  first_unread : ReadCause (codes "root") root_of given e → FirstCause crypto given e
  first_unmet : (doc : Document declared_root.Root) → root_document given ≡ Ok doc
      → RoleCause crypto (content_in doc) (codes "root") doc e → FirstCause crypto given e
