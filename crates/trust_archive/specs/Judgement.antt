-- The judgement of an archive: its documents come into force one after another, each by the rule by which a client adopts it, and the
-- first refusal stands (TUF specification, section 5). The snapshot alone is held to its pin by its version only, as in a chain.
use Rattle.std.specs.Prelude.{ℕ, ◌+◌, ◌-◌, List, [], ◌∷◌, ◌++◌, length, Bool, not, ◌&&◌, ◌==◌, if◌then◌else◌, bytes_eq}
use Rattle.std.specs.Prelude.{Option, Some, None, is_some, option_map, option_and_then, ok_or, Result, Ok, Err, codes, ⊤}
use Rattle.std.specs.List.{last_or}
use Rattle.jiff_core.specs.declared.timestamp.Timestamp as jiff
use Rattle.foundation.specs.Steps.{◌>>=◌}
use Rattle.sigstore_types_parts.specs.Entries.{at_name}
use Rattle.sigstore_keys.specs.Crypto.{Crypto}
use Rattle.sigstore_tuf_text.specs.declared.error.Error.{Error}
use Rattle.sigstore_tuf_text.specs.declared.error.Error.TheVariants as tuf
use Rattle.sigstore_tuf_text.specs.declared.error.Rule.TheVariants as rule
use Rattle.sigstore_tuf_parts.specs.declared.root.Root as declared
use Rattle.sigstore_tuf_parts.specs.declared.snapshot.Snapshot.{Snapshot}
use Rattle.sigstore_tuf_parts.specs.declared.targets.DelegatedRole.{DelegatedRole}
use Rattle.sigstore_tuf_parts.specs.declared.targets.TargetFile.{TargetFile}
use Rattle.sigstore_tuf_parts.specs.declared.targets.Targets.{Targets}
use Rattle.sigstore_tuf_parts.specs.declared.timestamp.MetaFile.{MetaFile}
use Rattle.sigstore_tuf_parts.specs.Document.{Document, content_in}
use Rattle.sigstore_tuf_parts.specs.Integrity.{integrity_of, version_of, fresh_of}
use Rattle.sigstore_tuf_parts.specs.RootRoles.{meets_role_of}
use Rattle.sigstore_tuf_rules.specs.declared.chain.RoleDoc.{RoleDoc}
use Rattle.sigstore_tuf_rules.specs.declared.chain.TrustChain.{TrustChain}
use Rattle.sigstore_tuf_rules.specs.declared.documents.InForce.{InForce}
use Rattle.sigstore_tuf_rules.specs.declared.visit.Next.{Next}
use Rattle.sigstore_tuf_rules.specs.declared.visit.Visit.{Visit}
use Rattle.sigstore_tuf_rules.specs.Delegated.{update_role_of}
use Rattle.sigstore_tuf_rules.specs.Documents.{snapshot_document, content_of}
use Rattle.sigstore_tuf_rules.specs.Names.{snapshot_pin_in, role_pin_in}
use Rattle.sigstore_tuf_rules.specs.Order.{Gap, matching, put_before, unread_of, delegated_in, first_visit}
use Rattle.sigstore_tuf_rules.specs.Serving.{root_serves_of}
use Rattle.sigstore_tuf_rules.specs.Update.{first_root_of, update_root_of, update_timestamp_of, update_targets_of}
use Rattle.trust_archive.specs.declared.archive.Archive.{Archive}
use Rattle.trust_archive.specs.declared.error.ArchiveError.{ArchiveError}
use Rattle.trust_archive.specs.declared.error.ArchiveError.TheVariants as archive
use Rattle.trust_archive.specs.Spelling.{archive_of, with_target}

-- ---- which document is refused

abbrev pub at_root : {A : Type 0} → ℕ → Result A Error → Result A ArchiveError
at_root position (Ok x) = Ok x
at_root position (Err e) = Err (archive.Root position e)

abbrev pub at_timestamp : {A : Type 0} → Result A Error → Result A ArchiveError
at_timestamp (Ok x) = Ok x
at_timestamp (Err e) = Err (archive.Timestamp e)

abbrev pub at_snapshot : {A : Type 0} → Result A Error → Result A ArchiveError
at_snapshot (Ok x) = Ok x
at_snapshot (Err e) = Err (archive.Snapshot e)

abbrev pub at_role : {A : Type 0} → ℕ → Result A Error → Result A ArchiveError
at_role position (Ok x) = Ok x
at_role position (Err e) = Err (archive.Role position e)

-- ---- the roots

abbrev pub later_roots_of : Crypto → ℕ → List (List ℕ) → InForce → Result InForce ArchiveError
later_roots_of crypto position [] set = Ok set
later_roots_of crypto position (root ∷ roots) set =
    at_root position (update_root_of crypto set root) >>= λ new. later_roots_of crypto (position + 1) roots new

-- the last of so many is fresh
abbrev pub fresh_root_of : ℕ → jiff.Timestamp → InForce → Result InForce ArchiveError
fresh_root_of last now set = at_root last (root_serves_of set now) >>= λ _. Ok set

-- Each behind the first is the next after its predecessor, and the last is fresh.
abbrev pub followed_roots_of : Crypto → jiff.Timestamp → List (List ℕ) → InForce → Result InForce ArchiveError
followed_roots_of crypto now later set = later_roots_of crypto 1 later set >>= λ new. fresh_root_of (length later) now new

-- The first is the given one, which meets its own role.
unfoldable pub roots_of : Crypto → List ℕ → jiff.Timestamp → List (List ℕ) → Result InForce ArchiveError
roots_of crypto given now [] = Err archive.FirstRoot
roots_of crypto given now (root ∷ later) =
    if bytes_eq root given then (at_root 0 (first_root_of crypto root) >>= followed_roots_of crypto now later) else Err archive.FirstRoot

-- ---- the timestamp and the snapshot

unfoldable pub timed_of : Crypto → jiff.Timestamp → List ℕ → InForce → Result InForce ArchiveError
timed_of crypto now bytes set = at_timestamp (update_timestamp_of crypto set bytes (Some now))

-- signed as the root asks, of the version by which the timestamp pins it, and fresh
unfoldable pub snapshot_judged_of : Crypto → jiff.Timestamp → declared.Root → MetaFile → Document Snapshot → Result ⊤ Error
snapshot_judged_of crypto now root pin new = do
  _ ← meets_role_of crypto root (codes "snapshot") new
  _ ← version_of pin (content_in new).version
  fresh_of (codes "snapshot") (content_in new).expires now

unfoldable pub snapshot_read_of : Crypto → jiff.Timestamp → declared.Root → MetaFile → List ℕ → Result (Document Snapshot) Error
snapshot_read_of crypto now root pin bytes = do
  new ← snapshot_document bytes
  _ ← snapshot_judged_of crypto now root pin new
  Ok new

abbrev pub having_snapshot : InForce → List ℕ → Document Snapshot → InForce
having_snapshot set bytes new = record set { snapshot = Some (record { bytes = bytes; document = new }) }

-- a timestamp that pins none is at fault itself
unfoldable pub snapped_of : Crypto → jiff.Timestamp → List ℕ → InForce → Result InForce ArchiveError
snapped_of crypto now bytes set = do
  pin ← ok_or (snapshot_pin_in set) (archive.Timestamp (tuf.Malformed rule.Unpinned))
  new ← at_snapshot (snapshot_read_of crypto now (content_in set.root) pin bytes)
  Ok (having_snapshot set bytes new)

-- ---- the roles

-- How far the visits are: the documents in force, what is pending, the names that were read, and how many visits are left.
pub record Going : Type 0 where
  pub set : InForce
  pub pending : List Visit
  pub read : List (List ℕ)
  pub left : ℕ

-- the visit that is next, and what is pending behind it: none where none is left, or all that is pending was read
abbrev pub next_in : ℕ → List (List ℕ) → List Visit → Option (Visit × List Visit)
next_in left read pending = if left == 0 then None else unread_of read pending

abbrev pub next_of : Going → Option (Visit × List Visit)
next_of g = next_in g.left g.read g.pending

abbrev pub is_pinned_in : InForce → List ℕ → Bool
is_pinned_in set name = is_some (role_pin_in set name)

-- a document stands there exactly where the snapshot pins the name
abbrev pub is_there : Option (List ℕ) → Bool → Bool
is_there None pinned = not pinned
is_there (Some bytes) pinned = pinned

abbrev pub is_visit : RoleDoc → Visit → Bool
is_visit r v = bytes_eq r.name v.name && bytes_eq r.delegator v.delegator

abbrev pub is_due : InForce → Visit → RoleDoc → Bool
is_due set v r = is_visit r v && is_there r.bytes (is_pinned_in set v.name)

abbrev pub due_of : ℕ → InForce → Visit → RoleDoc → Result ⊤ ArchiveError
due_of position set v r = if is_due set v r then Ok tt else Err (archive.Order position)

-- the document comes into force as the root's for `targets`, and as its delegation's for another role
abbrev pub adopted_of : Crypto → jiff.Timestamp → InForce → Visit → List ℕ → Result InForce Error
adopted_of crypto now set v bytes =
    if bytes_eq v.name (codes "targets") then update_targets_of crypto set bytes (Some now)
    else update_role_of crypto set v bytes (Some now)

-- the document of a name that is in force, what it lists, and whom it delegates to
abbrev pub document_in : InForce → List ℕ → Option Targets
document_in set name = option_map content_of (at_name name set.targets)

abbrev pub listed_in : InForce → List ℕ → List ℕ → Option TargetFile
listed_in set path name = option_and_then (λ (doc : Targets). at_name path doc.targets) (document_in set name)

abbrev pub delegated_by : Option Targets → List DelegatedRole
delegated_by None = []
delegated_by (Some doc) = delegated_in doc.delegations

abbrev pub or_malformed : Result Next Gap → Result Next Error
or_malformed (Ok next) = Ok next
or_malformed (Err gap) = Err (tuf.Malformed rule.Pattern)

-- what follows a document: nothing behind one that lists the path, else its matching delegations before what is pending
abbrev pub followed_of : List ℕ → ℕ → Visit → Going → Option TargetFile → Result Going ArchiveError
followed_of path position v g (Some entry) = Ok (record g { left = 0 })
followed_of path position v g None =
    at_role position (or_malformed (matching path (delegated_by (document_in g.set v.name))))
    >>= λ next. Ok (record g { pending = put_before v.name next g.pending })

abbrev pub having_read : InForce → List ℕ → Going → Going
having_read set name g = record g { set = set; read = g.read ++ name ∷ [] }

unfoldable pub read_of : Crypto → jiff.Timestamp → List ℕ → ℕ → Visit → Going → List ℕ → Result Going ArchiveError
read_of crypto now path position v g bytes = do
  set ← at_role position (adopted_of crypto now g.set v bytes)
  followed_of path position v (having_read set v.name g) (listed_in set path v.name)

abbrev pub made_of : Crypto → jiff.Timestamp → List ℕ → ℕ → Visit → Going → Option (List ℕ) → Result Going ArchiveError
made_of crypto now path position v g None = Ok g
made_of crypto now path position v g (Some bytes) = read_of crypto now path position v g bytes

abbrev pub counting : List Visit → Going → Going
counting vs g = record g { pending = vs; left = g.left - 1 }

-- a visit that is next: it is the role, and its document is judged
unfoldable pub next_judged_of : Crypto → jiff.Timestamp → List ℕ → ℕ → Visit → RoleDoc → Going → Result Going ArchiveError
next_judged_of crypto now path position v r g = do
  _ ← due_of position g.set v r
  made_of crypto now path position v (counting g.pending g) r.bytes

-- the role is the next visit, and its document is judged
unfoldable pub visited_of : Crypto → jiff.Timestamp → List ℕ → ℕ → RoleDoc → Going → Result Going ArchiveError
visited_of crypto now path position r g = do
  next ← ok_or (next_of g) (archive.Order position)
  _ ← due_of position g.set next.0 r
  made_of crypto now path position next.0 (counting next.1 g) r.bytes

-- what the document lists that was read last: a document that lists the path is the last
abbrev pub entry_of : List ℕ → Going → Option TargetFile
entry_of path g = option_and_then (listed_in g.set path) (last_or None g.read)

abbrev pub roles_of : Crypto → jiff.Timestamp → List ℕ → ℕ → List RoleDoc → Going → Result TargetFile ArchiveError
roles_of crypto now path position [] g = ok_or (entry_of path g) (archive.Order position)
roles_of crypto now path position (r ∷ roles) g =
    visited_of crypto now path position r g >>= λ h. roles_of crypto now path (position + 1) roles h

-- from `targets` on, of so many visits
abbrev pub begun : InForce → ℕ → Going
begun set max = record { set = set; pending = first_visit ∷ []; read = []; left = max }

-- ---- the file

abbrev pub or_file : Result ⊤ Error → Result ⊤ ArchiveError
or_file (Ok x) = Ok x
or_file (Err e) = Err archive.File

unfoldable pub file_of : TargetFile → List ℕ → Result ⊤ ArchiveError
file_of entry bytes = or_file (integrity_of (Some entry.length) (Some entry.hashes) bytes)

-- ---- the whole

abbrev pub both_of : Crypto → jiff.Timestamp → Archive → InForce → Result InForce ArchiveError
both_of crypto now a rooted = timed_of crypto now a.timestamp rooted >>= snapped_of crypto now a.snapshot

unfoldable pub top_of : Crypto → List ℕ → jiff.Timestamp → Archive → Result InForce ArchiveError
top_of crypto given now a = roots_of crypto given now a.roots >>= both_of crypto now a

-- the file is that of the entry
abbrev pub filed_of : List ℕ → TargetFile → Result TargetFile ArchiveError
filed_of file entry = file_of entry file >>= λ _. Ok entry

abbrev pub with_file_of : List ℕ → Result TargetFile ArchiveError → Result TargetFile ArchiveError
with_file_of file found = found >>= filed_of file

-- the entry of the target that the archive is of
unfoldable pub judged_of : Crypto → List ℕ → jiff.Timestamp → ℕ → List ℕ → Archive → Result TargetFile ArchiveError
judged_of crypto given now max path a =
    top_of crypto given now a >>= λ set. with_file_of a.file (roles_of crypto now path 0 a.roles (begun set max))

unfoldable pub chain_of : Crypto → List ℕ → jiff.Timestamp → ℕ → List ℕ → List ℕ → Result TrustChain ArchiveError
chain_of crypto given now max path bytes = do
  a ← archive_of bytes
  entry ← judged_of crypto given now max path a
  Ok (with_target a entry)
