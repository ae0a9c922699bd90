-- What each refusal of an archive tells: of its bytes, and of the first document or visit in it that fails, behind those that were
-- judged well (TUF specification, section 5).
use Rattle.std.specs.Prelude.{◌≡◌, ◌≢◌, ℕ, ◌+◌, ◌<◌, ◌≤◌, List, [], ◌∷◌, ◌++◌}
use Rattle.std.specs.Prelude.{map, length, take, true, false, Option, Some, None, Ok, Err, codes}
use Rattle.std.specs.Prelude.{option_map, option_and_then}
use Rattle.std.specs.List.{AllByRecursion}
use Rattle.jiff_core.specs.declared.timestamp.Timestamp as jiff
use Rattle.sigstore_types_parts.specs.Entries.{at_name}
use Rattle.sigstore_keys.specs.Crypto.{Crypto}
use Rattle.sigstore_tuf_text.specs.declared.error.Error.{Error}
use Rattle.sigstore_tuf_text.specs.declared.error.Error.TheVariants as tuf
use Rattle.sigstore_tuf_text.specs.declared.error.Rule.TheVariants as rule
use Rattle.sigstore_tuf_parts.specs.declared.root.Root as declared
use Rattle.sigstore_tuf_parts.specs.declared.snapshot.Snapshot.{Snapshot}
use Rattle.sigstore_tuf_parts.specs.declared.targets.TargetFile.{TargetFile}
use Rattle.sigstore_tuf_parts.specs.declared.targets.Targets.{Targets}
use Rattle.sigstore_tuf_parts.specs.declared.timestamp.MetaFile.{MetaFile}
use Rattle.sigstore_tuf_parts.specs.declared.timestamp.Timestamp.{Timestamp}
use Rattle.sigstore_tuf_parts.specs.Cause.{ReadCause, RoleCause, ExpiryCause}
use Rattle.sigstore_tuf_parts.specs.Document.{Document, content_in}
use Rattle.sigstore_tuf_parts.specs.Pinned.{PinnedFile, Fresh}
use Rattle.sigstore_tuf_parts.specs.RootRoles.{MeetsRole}
use Rattle.sigstore_tuf_parts.specs.Snapshot.{snapshot_of}
use Rattle.sigstore_tuf_parts.specs.Timestamp.{timestamp_of}
use Rattle.sigstore_tuf_rules.specs.declared.chain.RoleDoc.{RoleDoc}
use Rattle.sigstore_tuf_rules.specs.declared.chain.TrustChain.{TrustChain}
use Rattle.sigstore_tuf_rules.specs.declared.documents.Held.{Held}
use Rattle.sigstore_tuf_rules.specs.declared.documents.InForce.{InForce}
use Rattle.sigstore_tuf_rules.specs.declared.visit.Visit.{Visit}
use Rattle.sigstore_tuf_rules.specs.Documents.{timestamp_document, snapshot_document, content_of, snapshot_pin}
use Rattle.sigstore_tuf_rules.specs.Order.{Gap, is_pinned, matching, delegated_in, order}
use Rattle.sigstore_tuf_rules.specs.Trusted.{visit_in, documents_in, last_in, IsTrustedRole, IsTrustedVisit, BeginsWith, AreRoots}
use Rattle.sigstore_tuf_runs.specs.Cause.{FirstCause, RootRefusal, TargetsRefusal, IsOfAnotherVersion}
use Rattle.sigstore_tuf_runs.specs.SearchCause.{RoleRefusal}
use Rattle.trust_archive.specs.declared.archive.Archive.{Archive}
use Rattle.trust_archive.specs.declared.error.ArchiveError.{ArchiveError}
use Rattle.trust_archive.specs.declared.error.ArchiveError.TheVariants as archive
use Rattle.trust_archive.specs.Spelling.{with_target, archive_of, IsSpelling}

-- ---- the roots

pub data RootCause (crypto : Crypto) (given : List ℕ) (now : jiff.Timestamp) (roots : List (List ℕ)) (position : ℕ) (fault : Error)
    : Type 0 where
  -- the first, which is the given one
  first : position ≡ 0 → BeginsWith given roots → FirstCause crypto given fault → RootCause crypto given now roots position fault
  -- the one behind these, which go from the given one to the root in force
  next : (before : List (List ℕ)) (root : List ℕ) (after : List (List ℕ)) (set : InForce) → roots ≡ before ++ root ∷ after
      → position ≡ length before → AreRoots crypto given before set.root → RootRefusal crypto set root fault
      → RootCause crypto given now roots position fault
  -- the last
  expired : (root : Document declared.Root) → position + 1 ≡ length roots → AreRoots crypto given roots root
      → ExpiryCause (codes "root") (content_in root).expires now fault → RootCause crypto given now roots position fault

-- the roots go from the given one to a fresh one
pub record HasRoot (crypto : Crypto) (given : List ℕ) (now : jiff.Timestamp) (roots : List (List ℕ)) (root : Document declared.Root)
    : Type 0 where
  pub are : AreRoots crypto given roots root
  pub fresh : Fresh (content_in root).expires now

-- ---- the timestamp and the snapshot

pub data TimestampCause (crypto : Crypto) (now : jiff.Timestamp) (root : declared.Root) (bytes : List ℕ) (fault : Error) : Type 0 where
  time_unread : ReadCause (codes "timestamp") timestamp_of bytes fault → TimestampCause crypto now root bytes fault
  time_unmet : (doc : Document Timestamp) → timestamp_document bytes ≡ Ok doc → RoleCause crypto root (codes "timestamp") doc fault
      → TimestampCause crypto now root bytes fault
  time_expired : (doc : Document Timestamp) → timestamp_document bytes ≡ Ok doc
      → ExpiryCause (codes "timestamp") (content_in doc).expires now fault → TimestampCause crypto now root bytes fault
  pins_none : (doc : Document Timestamp) → timestamp_document bytes ≡ Ok doc → MeetsRole crypto root (codes "timestamp") doc
      → Fresh (content_in doc).expires now → snapshot_pin (content_in doc) ≡ None → fault ≡ tuf.Malformed rule.Unpinned
      → TimestampCause crypto now root bytes fault

pub data SnapshotCause (crypto : Crypto) (now : jiff.Timestamp) (root : declared.Root) (pin : MetaFile) (bytes : List ℕ) (fault : Error)
    : Type 0 where
  snap_unread : ReadCause (codes "snapshot") snapshot_of bytes fault → SnapshotCause crypto now root pin bytes fault
  snap_unmet : (doc : Document Snapshot) → snapshot_document bytes ≡ Ok doc → RoleCause crypto root (codes "snapshot") doc fault
      → SnapshotCause crypto now root pin bytes fault
  snap_version : (doc : Document Snapshot) → snapshot_document bytes ≡ Ok doc → IsOfAnotherVersion pin (content_in doc).version fault
      → SnapshotCause crypto now root pin bytes fault
  snap_expired : (doc : Document Snapshot) → snapshot_document bytes ≡ Ok doc
      → ExpiryCause (codes "snapshot") (content_in doc).expires now fault → SnapshotCause crypto now root pin bytes fault

-- ---- the documents before the roles, each judged well

-- the timestamp is trusted under this root, and pins the snapshot so
pub record HasTimestamp (crypto : Crypto) (now : jiff.Timestamp) (root : declared.Root) (bytes : List ℕ) (pin : MetaFile) : Type 0 where
  pub doc : Document Timestamp
  pub read : timestamp_document bytes ≡ Ok doc
  pub met : MeetsRole crypto root (codes "timestamp") doc
  pub fresh : Fresh (content_in doc).expires now
  pub pin_is : snapshot_pin (content_in doc) ≡ Some pin

-- the snapshot is trusted under this root, and of the version of its pin
pub record HasSnapshot (crypto : Crypto) (now : jiff.Timestamp) (root : declared.Root) (pin : MetaFile) (bytes : List ℕ)
    (doc : Document Snapshot) : Type 0 where
  pub read : snapshot_document bytes ≡ Ok doc
  pub met : MeetsRole crypto root (codes "snapshot") doc
  pub fresh : Fresh (content_in doc).expires now
  pub version : (content_in doc).version ≡ pin.version

pub record HasTop (crypto : Crypto) (given : List ℕ) (now : jiff.Timestamp) (a : Archive) (root : Document declared.Root)
    (snapshot : Document Snapshot) : Type 0 where
  pub rooted : HasRoot crypto given now a.roots root
  pub pin : MetaFile
  pub timed : HasTimestamp crypto now (content_in root) a.timestamp pin
  pub snapped : HasSnapshot crypto now (content_in root) pin a.snapshot snapshot

-- ---- the visits

-- These roles are trusted, by the documents among them, and a search over these documents, of so many visits, makes just these.
pub record AreVisits (crypto : Crypto) (root : declared.Root) (snapshot : Snapshot) (now : jiff.Timestamp) (path : List ℕ)
    (roles : List RoleDoc) : Type 0 where
  pub trusted : AllByRecursion
      (λ (r : RoleDoc). IsTrustedVisit crypto root snapshot (documents_in roles) now (visit_in r) r.bytes) roles
  pub searched : order (documents_in roles) snapshot path (length roles) ≡ Some (map visit_in roles)

-- The documents before the roles were judged well, and so were these, which are the roles before this position.
pub record ComesTo (crypto : Crypto) (given : List ℕ) (now : jiff.Timestamp) (path : List ℕ) (a : Archive) (position : ℕ)
    (root : Document declared.Root) (snapshot : Document Snapshot) (before rest : List RoleDoc) : Type 0 where
  pub top : HasTop crypto given now a root snapshot
  pub roles_are : a.roles ≡ before ++ rest
  pub position_is : position ≡ length before
  pub visits : AreVisits crypto (content_in root) (content_in snapshot) now path before

-- documents with those of these roles, whatever the others are
abbrev pub HasAll : List RoleDoc → (List ℕ → Option Targets) → Type 0
HasAll roles documents = (name : List ℕ) (doc : Targets) → documents_in roles name ≡ Some doc → documents name ≡ Some doc

-- over some documents with those of these roles, a search that may make one visit more makes these and then this one
abbrev pub IsNext : Snapshot → List ℕ → List RoleDoc → RoleDoc → Type 0
IsNext snapshot path before r = (documents : List ℕ → Option Targets) × HasAll before documents
    × (order documents snapshot path (length before + 1) ≡ Some (map visit_in (before ++ r ∷ [])))

-- what the document that was read last lists under the path
abbrev pub listed_by : List RoleDoc → List ℕ → Option TargetFile
listed_by roles path = option_and_then (λ (doc : Targets). at_name path doc.targets) (last_in roles)

-- The list and the search part behind these roles. The role that follows isn't the next visit, or no more are allowed; it has no
-- document, though the snapshot pins its name, or one, though it doesn't. Or the list ends, and the search doesn't end there, or the
-- document that was read last doesn't list the path.
pub data OrderCause (snapshot : Snapshot) (path : List ℕ) (max : ℕ) (before rest : List RoleDoc) : Type 0 where
  another : (r : RoleDoc) (later : List RoleDoc) → rest ≡ r ∷ later → (IsNext snapshot path before r → ⊥)
      → OrderCause snapshot path max before rest
  beyond : (r : RoleDoc) (later : List RoleDoc) → rest ≡ r ∷ later → max ≤ length before → OrderCause snapshot path max before rest
  lacking : (r : RoleDoc) (later : List RoleDoc) → rest ≡ r ∷ later → r.bytes ≡ None → is_pinned snapshot r.name ≡ true
      → OrderCause snapshot path max before rest
  unpinned : (r : RoleDoc) (later : List RoleDoc) (bytes : List ℕ) → rest ≡ r ∷ later → r.bytes ≡ Some bytes
      → is_pinned snapshot r.name ≡ false → OrderCause snapshot path max before rest
  short : rest ≡ [] → order (documents_in before) snapshot path max ≢ Some (map visit_in before)
      → OrderCause snapshot path max before rest
  unlisted : rest ≡ [] → listed_by before path ≡ None → OrderCause snapshot path max before rest

-- ---- the document of a role

-- those in force are those before the roles, and those of these roles
pub record AreInForce (a : Archive) (root : declared.Root) (snapshot : Document Snapshot) (roles : List RoleDoc) (set : InForce)
    : Type 0 where
  pub root_is : content_in set.root ≡ root
  pub snapshot_is : set.snapshot ≡ Some (record { bytes = a.snapshot; document = snapshot })
  pub roles_are : (name : List ℕ) → option_map content_of (at_name name set.targets) ≡ documents_in roles name

-- It is refused, as the root's for `targets` and as its delegation's for another role; or it is trusted and doesn't list the path, and a
-- pattern in it is malformed.
pub data DocumentCause (crypto : Crypto) (now : jiff.Timestamp) (path : List ℕ) (set : InForce) (v : Visit) (bytes : List ℕ) (fault : Error)
    : Type 0 where
  of_targets : v.name ≡ codes "targets" → TargetsRefusal crypto set now bytes fault → DocumentCause crypto now path set v bytes fault
  of_role : v.name ≢ codes "targets" → RoleRefusal crypto set now v bytes fault → DocumentCause crypto now path set v bytes fault
  malformed : (snapshot : Held Snapshot) (gap : Gap) → set.snapshot ≡ Some snapshot
      → (t : IsTrustedRole crypto (content_in set.root) (content_of snapshot)
      (λ name. option_map content_of (at_name name set.targets)) now v bytes)
      → at_name path (content_in t.doc).targets ≡ None → matching path (delegated_in (content_in t.doc).delegations) ≡ Err gap
      → fault ≡ tuf.Malformed rule.Pattern → DocumentCause crypto now path set v bytes fault

-- ---- the refusals

pub record OrderAt (crypto : Crypto) (given : List ℕ) (now : jiff.Timestamp) (max : ℕ) (path : List ℕ) (a : Archive) (position : ℕ)
    : Type 0 where
  pub root : Document declared.Root
  pub snapshot : Document Snapshot
  pub before : List RoleDoc
  pub rest : List RoleDoc
  pub comes : ComesTo crypto given now path a position root snapshot before rest
  pub cause : OrderCause (content_in snapshot) path max before rest

-- the role is the next visit, and its document is at fault
pub record RoleAt (crypto : Crypto) (given : List ℕ) (now : jiff.Timestamp) (max : ℕ) (path : List ℕ) (a : Archive) (position : ℕ)
    (fault : Error) : Type 0 where
  pub root : Document declared.Root
  pub snapshot : Document Snapshot
  pub before : List RoleDoc
  pub role : RoleDoc
  pub later : List RoleDoc
  pub comes : ComesTo crypto given now path a position root snapshot before (role ∷ later)
  pub next : IsNext (content_in snapshot) path before role
  pub within : length before < max
  pub bytes : List ℕ
  pub there : role.bytes ≡ Some bytes
  pub pinned : is_pinned (content_in snapshot) role.name ≡ true
  pub set : InForce
  pub in_force : AreInForce a (content_in root) snapshot before set
  pub cause : DocumentCause crypto now path set (visit_in role) bytes fault

-- the roles are the visits of the whole search, each trusted, and the file isn't the one that they list
pub record FileCause (crypto : Crypto) (given : List ℕ) (now : jiff.Timestamp) (max : ℕ) (path : List ℕ) (a : Archive) : Type 0 where
  pub root : Document declared.Root
  pub snapshot : Document Snapshot
  pub top : HasTop crypto given now a root snapshot
  pub trusted : AllByRecursion
      (λ (r : RoleDoc). IsTrustedVisit crypto (content_in root) (content_in snapshot) (documents_in a.roles) now (visit_in r) r.bytes)
      a.roles
  pub searched : order (documents_in a.roles) (content_in snapshot) path max ≡ Some (map visit_in a.roles)
  pub entry : TargetFile
  pub listed : listed_by a.roles path ≡ Some entry
  pub differs : PinnedFile a.file entry → ⊥

-- the bytes spell this archive, whatever its target is, and that holds of it
abbrev pub Spells : List ℕ → (Archive → Type 0) → Type 0
Spells bytes P = (a : Archive) × ((target : TargetFile) → IsSpelling bytes (with_target a target)) × P a

-- the bytes before this place begin the spelling of this archive, whatever its target is
pub record BeginsSpelling (bytes : List ℕ) (at : ℕ) : Type 0 where
  pub whole : Archive
  pub spelling : List ℕ
  pub spells : (target : TargetFile) → IsSpelling spelling (with_target whole target)
  pub more : List ℕ
  pub begins : spelling ≡ take at bytes ++ more

-- the bytes are the spelling of no chain, and the first part of them that can't be read stands behind so many, which begin a spelling
pub record FormatCause (bytes : List ℕ) (at : ℕ) : Type 0 where
  pub none : (chain : TrustChain) → IsSpelling bytes chain → ⊥
  pub unread : archive_of bytes ≡ Err (archive.Format at)
  pub before : BeginsSpelling bytes at

abbrev pub ArchiveCause : Crypto → List ℕ → jiff.Timestamp → ℕ → List ℕ → List ℕ → ArchiveError → Type 0
ArchiveCause crypto given now max path bytes (archive.Format at) = FormatCause bytes at
ArchiveCause crypto given now max path bytes archive.FirstRoot = Spells bytes (λ a. BeginsWith given a.roots → ⊥)
ArchiveCause crypto given now max path bytes (archive.Root position fault) =
    Spells bytes (λ a. RootCause crypto given now a.roots position fault)
ArchiveCause crypto given now max path bytes (archive.Timestamp fault) =
    Spells bytes (λ a. (root : Document declared.Root) × HasRoot crypto given now a.roots root
    × TimestampCause crypto now (content_in root) a.timestamp fault)
ArchiveCause crypto given now max path bytes (archive.Snapshot fault) =
    Spells bytes (λ a. (root : Document declared.Root) × HasRoot crypto given now a.roots root
    × ((pin : MetaFile) × HasTimestamp crypto now (content_in root) a.timestamp pin
    × SnapshotCause crypto now (content_in root) pin a.snapshot fault))
ArchiveCause crypto given now max path bytes (archive.Role position fault) =
    Spells bytes (λ a. RoleAt crypto given now max path a position fault)
ArchiveCause crypto given now max path bytes (archive.Order position) =
    Spells bytes (λ a. OrderAt crypto given now max path a position)
ArchiveCause crypto given now max path bytes archive.File = Spells bytes (λ a. FileCause crypto given now max path a)
ArchiveCause crypto given now max path bytes (archive.TooLong length) = ⊥
ArchiveCause crypto given now max path bytes archive.NoMemory = ⊥
