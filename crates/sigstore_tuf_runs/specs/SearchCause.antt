-- What each refusal of a search tells: of the documents in force at its end, of the documents of the roles that it comes to, and of
-- the file (TUF specification, sections 5.6.7 and 5.7).
use Rattle.std.specs.Prelude.{◌≡◌, ◌≢◌, ℕ, ◌<◌, List, [], ◌∷◌, Bool, true, false, Some, None, Ok, Err, codes}
use Rattle.jiff_core.specs.declared.timestamp.Timestamp as jiff
use Rattle.foundation.specs.Watched.{Watched}
use Rattle.sigstore_types_parts.specs.Entries.{at_name}
use Rattle.sigstore_keys.specs.Crypto.{Crypto}
use Rattle.sigstore_tuf_text.specs.declared.error.Error.{Error}
use Rattle.sigstore_tuf_text.specs.declared.error.Error.TheVariants as tuf
use Rattle.sigstore_tuf_text.specs.declared.error.Mismatch.TheVariants as mismatch
use Rattle.sigstore_tuf_text.specs.declared.error.Rule.TheVariants as rule
use Rattle.sigstore_tuf_text.specs.declared.error.TransportFault.{TransportFault}
use Rattle.sigstore_tuf_parts.specs.declared.snapshot.Snapshot as declared_snapshot
use Rattle.sigstore_tuf_parts.specs.declared.targets.TargetFile.{TargetFile}
use Rattle.sigstore_tuf_parts.specs.declared.targets.Targets as declared_targets
use Rattle.sigstore_tuf_parts.specs.declared.timestamp.MetaFile.{MetaFile}
use Rattle.sigstore_tuf_parts.specs.declared.timestamp.Timestamp as declared_timestamp
use Rattle.sigstore_tuf_parts.specs.Cause.{ReadCause, MeetsCause, IntegrityCause, ExpiryCause}
use Rattle.sigstore_tuf_parts.specs.Document.{Document, content_in}
use Rattle.sigstore_tuf_parts.specs.Targets.{targets_of}
use Rattle.sigstore_tuf_rules.specs.declared.config.UpdaterConfig.{UpdaterConfig}
use Rattle.sigstore_tuf_rules.specs.declared.documents.Held.{Held}
use Rattle.sigstore_tuf_rules.specs.declared.documents.InForce.{InForce}
use Rattle.sigstore_tuf_rules.specs.Documents.{targets_document, content_of}
use Rattle.sigstore_tuf_outside.specs.Repository.{Folders, metadata_files, target_files}
use Rattle.sigstore_tuf_rules.specs.Names.{is_consistent, role_pin_in, role_name_in, target_name_of}
use Rattle.sigstore_tuf_runs.specs.State.{Session, State}
use Rattle.sigstore_tuf_rules.specs.Taking.{top_targets}
use Rattle.sigstore_tuf_rules.specs.declared.visit.Visit.{Visit}
use Rattle.sigstore_tuf_rules.specs.declared.visit.Walk.{Walk}
use Rattle.sigstore_tuf_rules.specs.Order.{Tree, pattern, Step, visit_of, pending_after, first_visit, first_walk}
use Rattle.sigstore_tuf_runs.specs.Search.{reads, is_held, tree_in, entry_after}
use Rattle.sigstore_tuf_rules.specs.Trusted.{RoleAuthority}
use Rattle.sigstore_tuf_rules.specs.Delegated.{delegation_of}
use Rattle.sigstore_tuf_rules.specs.Authorised.{Serve}
use Rattle.sigstore_tuf_runs.specs.Cause.{Has, TransportCause, PinsSnapshot, PinsTargets, IsOfAnotherVersion}
use Rattle.sigstore_tuf_runs.specs.Found.{Finds}

-- ---- documents in force that don't serve

-- a top-level document is missing
pub data Lacks (set : InForce) : Type 0 where
  no_timestamp : set.timestamp ≡ None → Lacks set
  no_snapshot : set.snapshot ≡ None → Lacks set
  no_targets : top_targets set ≡ None → Lacks set

pub data TopCause (now : jiff.Timestamp) (set : InForce) (e : Error) : Type 0 where
  root_past : ExpiryCause (codes "root") (content_in set.root).expires now e → TopCause now set e
  timestamp_past : (held : Held declared_timestamp.Timestamp) → set.timestamp ≡ Some held
      → ExpiryCause (codes "timestamp") (content_of held).expires now e → TopCause now set e
  snapshot_past : (held : Held declared_snapshot.Snapshot) → set.snapshot ≡ Some held
      → ExpiryCause (codes "snapshot") (content_of held).expires now e → TopCause now set e
  not_refreshed : Lacks set → e ≡ tuf.NotRefreshed → TopCause now set e
  targets_past : (held : Held declared_targets.Targets) → top_targets set ≡ Some held
      → ExpiryCause (codes "targets") (content_of held).expires now e → TopCause now set e
  snapshot_unlike : (held : Held declared_snapshot.Snapshot) → set.snapshot ≡ Some held
      → ((pin : MetaFile) → PinsSnapshot set pin → (content_of held).version ≢ pin.version)
      → e ≡ tuf.IntegrityMismatch mismatch.Version → TopCause now set e
  targets_unlike : (held : Held declared_targets.Targets) → top_targets set ≡ Some held
      → ((pin : MetaFile) → PinsTargets set pin → (content_of held).version ≢ pin.version)
      → e ≡ tuf.IntegrityMismatch mismatch.Version → TopCause now set e

-- ---- a role that the search comes to

-- from these that are pending, the search over the tree comes to a visit
pub data Reaches (tree : Tree) : List Visit → Walk → Visit → Walk → Type 0 where
  first : (v : Visit) (vs : List Visit) (w : Walk) → Reaches tree (v ∷ vs) w v w
  later : (v : Visit) (vs : List Visit) (w : Walk) (step : Step) (u : Visit) (w' : Walk) → visit_of tree v w ≡ Ok step
      → Reaches tree (pending_after v step vs) step.walk u w' → Reaches tree (v ∷ vs) w u w'

-- The documents in force serve, and the search over them comes to this visit, which reads a document.
pub record ComesTo (session : Session) (path : List ℕ) (set : InForce) (v : Visit) : Type 0 where
  pub serve : Serve session.now set
  pub walk : Walk
  pub reaches : Reaches (tree_in set (content_of serve.snapshot) path) (first_visit ∷ [])
      (first_walk session.config.max_delegations) v walk
  pub reads : reads set v walk ≡ true

-- and a pattern that it then reads is malformed
pub record ComesToPattern (session : Session) (path : List ℕ) (set : InForce) (v : Visit) : Type 0 where
  pub comes : ComesTo session path set v
  pub malformed : visit_of (tree_in set (content_of comes.serve.snapshot) path) v comes.walk ≡ Err pattern

-- bytes that aren't the pinned document of a role, or that aren't signed as its delegator asks
pub data RoleRefusal (crypto : Crypto) (set : InForce) (now : jiff.Timestamp) (v : Visit) (bytes : List ℕ) (e : Error) : Type 0 where
  role_differs : (pin : MetaFile) → role_pin_in set v.name ≡ Some pin → IntegrityCause pin.length pin.hashes bytes e
      → RoleRefusal crypto set now v bytes e
  role_unread : ReadCause (codes "targets") targets_of bytes e → RoleRefusal crypto set now v bytes e
  role_version : (pin : MetaFile) (doc : Document declared_targets.Targets) → role_pin_in set v.name ≡ Some pin
      → targets_document bytes ≡ Ok doc → IsOfAnotherVersion pin (content_in doc).version e → RoleRefusal crypto set now v bytes e
  role_unmet : (authority : RoleAuthority) (doc : Document declared_targets.Targets) → delegation_of set v ≡ Ok authority
      → targets_document bytes ≡ Ok doc → MeetsCause crypto authority.keys authority.role v.name doc e
      → RoleRefusal crypto set now v bytes e
  role_expired : (doc : Document declared_targets.Targets) → targets_document bytes ≡ Ok doc
      → ExpiryCause v.name (content_in doc).expires now e → RoleRefusal crypto set now v bytes e

-- ---- why a search refuses

-- The documents in force at the end don't serve. Or the search over them comes to a role: the repository's document of it is refused
-- or wasn't given, by the name that those in force give it; or the one that was in force from the beginning isn't signed as its
-- delegator asks now, or is expired; or a pattern is malformed.
pub data SearchCause (session : Session) (path : List ℕ) (old new : State) (e : Error) : Type 0 where
  unserved : TopCause session.now new.documents e → SearchCause session path old new e
  role_refused : (v : Visit) (bytes : List ℕ) → ComesTo session path new.documents v → is_held new.documents v.name ≡ false
      → Has metadata_files old.repo (role_name_in new.documents v.name) bytes
      → RoleRefusal session.crypto new.documents session.now v bytes e → SearchCause session path old new e
  role_unfetched : (v : Visit) (fault : TransportFault) → ComesTo session path new.documents v → is_held new.documents v.name ≡ false
      → TransportCause metadata_files (role_name_in new.documents v.name) session.config.targets_max_length old.repo new.repo fault
      → e ≡ tuf.Transport fault → SearchCause session path old new e
  kept_role_unmet : (v : Visit) (held : Held declared_targets.Targets) (authority : RoleAuthority) → ComesTo session path new.documents v
      → at_name v.name old.documents.targets ≡ Some held → delegation_of new.documents v ≡ Ok authority
      → MeetsCause session.crypto authority.keys authority.role v.name held.document e → SearchCause session path old new e
  kept_role_expired : (v : Visit) (held : Held declared_targets.Targets) → ComesTo session path new.documents v
      → at_name v.name old.documents.targets ≡ Some held → ExpiryCause v.name (content_of held).expires session.now e
      → SearchCause session path old new e
  malformed : (v : Visit) → ComesToPattern session path new.documents v → e ≡ tuf.Malformed rule.Pattern
      → SearchCause session path old new e
  search_wanting : e ≡ tuf.NoMemory → SearchCause session path old new e

-- ---- why a file isn't had

-- the entry of a target is longer than the limit, or has no digest for its name, or the repository's file of it isn't had or is another
pub data FileCause (consistent : Bool) (config : UpdaterConfig) (entry : TargetFile) (path : List ℕ) (old new : Watched Folders)
    (e : Error) : Type 0 where
  listed_too_long : e ≡ tuf.IntegrityMismatch mismatch.TooLong → config.target_max_length < entry.length
      → FileCause consistent config entry path old new e
  without_digest : target_name_of consistent entry path ≡ None → e ≡ tuf.IntegrityMismatch mismatch.NoDigest
      → FileCause consistent config entry path old new e
  file_unfetched : (name : List ℕ) (fault : TransportFault) → target_name_of consistent entry path ≡ Some name
      → TransportCause target_files name entry.length old new fault → e ≡ tuf.Transport fault
      → FileCause consistent config entry path old new e
  file_differs : (name bytes : List ℕ) → target_name_of consistent entry path ≡ Some name → Has target_files old name bytes
      → IntegrityCause (Some entry.length) (Some entry.hashes) bytes e → FileCause consistent config entry path old new e
  file_wanting : e ≡ tuf.NoMemory → FileCause consistent config entry path old new e

-- The search refuses; or it ends, within the visits that are allowed, and its last document doesn't list the path; or the file of the
-- entry that this lists isn't had.
pub data TargetCause (session : Session) (path : List ℕ) (old new : State) (e : Error) : Type 0 where
  searching : SearchCause session path old new e → TargetCause session path old new e
  unlisted : (visits : List Visit) → Finds session path new.documents visits → entry_after new.documents path visits ≡ None
      → e ≡ tuf.TargetNotFound path → TargetCause session path old new e
  of_file : (visits : List Visit) (entry : TargetFile) → Finds session path new.documents visits
      → entry_after new.documents path visits ≡ Some entry
      → FileCause (is_consistent new.documents) session.config entry path old.repo new.repo e → TargetCause session path old new e
