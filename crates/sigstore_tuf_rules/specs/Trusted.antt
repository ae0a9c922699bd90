-- A chain of documents that is trusted (TUF specification, section 5).
use Rattle.std.specs.Prelude.{◌≡◌, ℕ, false, List, [], ◌∷◌, map, find, bytes_eq, Option, Some, None, option_map}
use Rattle.std.specs.Prelude.{option_and_then, Ok, codes, if◌then◌else◌}
use Rattle.std.specs.List.{AllByRecursion, AllZip, last_or, filter_map}
use Rattle.std.specs.Result.{result_ok}
use Rattle.jiff_core.specs.declared.timestamp.Timestamp as jiff
use Rattle.sigstore_types_parts.specs.Entries.{at_name}
use Rattle.sigstore_keys.specs.Crypto.{Crypto}
use Rattle.sigstore_tuf_parts.specs.declared.keys.RoleKeys.{RoleKeys}
use Rattle.sigstore_tuf_parts.specs.declared.root.Root.{Root}
use Rattle.sigstore_tuf_parts.specs.declared.timestamp.MetaFile.{MetaFile}
use Rattle.sigstore_tuf_parts.specs.declared.timestamp.Timestamp.{Timestamp}
use Rattle.sigstore_tuf_parts.specs.declared.snapshot.Snapshot.{Snapshot}
use Rattle.sigstore_tuf_parts.specs.declared.targets.Delegations.{Delegations}
use Rattle.sigstore_tuf_parts.specs.declared.targets.Targets.{Targets}
use Rattle.sigstore_tuf_parts.specs.Document.{Document, content_in}
use Rattle.sigstore_tuf_parts.specs.Threshold.{Keys}
use Rattle.sigstore_tuf_parts.specs.Meets.{Meets}
use Rattle.sigstore_tuf_parts.specs.RootRoles.{root_document, MeetsRole, Roots}
use Rattle.sigstore_tuf_parts.specs.Pinned.{Pinned, PinnedFile, Fresh}
use Rattle.sigstore_tuf_text.specs.Names.{pin_name}
use Rattle.sigstore_tuf_parts.specs.Targets.{role_keys_in}
use Rattle.sigstore_tuf_rules.specs.declared.chain.RoleDoc.{RoleDoc}
use Rattle.sigstore_tuf_rules.specs.declared.chain.TrustChain.{TrustChain}
use Rattle.sigstore_tuf_rules.specs.Documents.{timestamp_document, snapshot_document, targets_document, snapshot_pin}
use Rattle.sigstore_tuf_rules.specs.Order.{Visit, is_pinned, order}

-- ---- the roles of a chain

abbrev pub visit_in : RoleDoc → Visit
visit_in r = record { name = r.name; delegator = r.delegator }

-- what a visit read, with its name
abbrev pub read_in : RoleDoc → Option (List ℕ × Targets)
read_in r = option_and_then (λ bytes. option_map (λ doc. (r.name, content_in doc)) (result_ok (targets_document bytes))) r.bytes

-- the documents in the chain, by their names
abbrev pub documents_in : List RoleDoc → List ℕ → Option Targets
documents_in roles name = at_name name (filter_map read_in roles)

-- the document of the first visit, which is that of `targets`
abbrev pub targets_bytes : List RoleDoc → Option (List ℕ)
targets_bytes [] = None
targets_bytes (role ∷ roles) = role.bytes

-- the document of the last visit
abbrev pub last_in : List RoleDoc → Option Targets
last_in roles = option_and_then (λ r. documents_in roles r.name) (last_or None roles)

-- ---- the authority of a role

-- keys, and what is asked of their signatures
pub record RoleAuthority : Type 0 where
  pub keys : Keys
  pub role : RoleKeys

-- the first delegation of the name, with the keys beside it
abbrev pub authority_in : List ℕ → Delegations → Option RoleAuthority
authority_in name d = option_map (λ r. record { keys = d.keys; role = role_keys_in r }) (find (λ r. bytes_eq r.name name) d.roles)

abbrev pub delegated_authority : (List ℕ → Option Targets) → Visit → Option RoleAuthority
delegated_authority documents v =
    option_and_then (λ (doc : Targets). option_and_then (authority_in v.name) doc.delegations) (documents v.delegator)

abbrev pub root_authority : Root → List ℕ → Option RoleAuthority
root_authority root name = option_map (λ role. record { keys = root.keys; role = role }) (at_name name root.roles)

-- that of `targets` is the root; that of another role is the first delegation of its name in the document of its delegator
abbrev pub authority_of : Root → (List ℕ → Option Targets) → Visit → Option RoleAuthority
authority_of root documents v = if bytes_eq v.name (codes "targets") then root_authority root v.name else delegated_authority documents v

-- ---- what holds of a trusted chain

-- a document of a role is pinned by the snapshot, fresh, and meets its authority
pub record IsTrustedRole (crypto : Crypto) (root : Root) (snapshot : Snapshot) (documents : List ℕ → Option Targets)
    (now : jiff.Timestamp) (v : Visit) (bytes : List ℕ) : Type 0 where
  pub doc : Document Targets
  pub pin : MetaFile
  pub authority : RoleAuthority
  pub read : targets_document bytes ≡ Ok doc
  pub pin_is : at_name (pin_name v.name) snapshot.meta ≡ Some pin
  pub pinned : Pinned bytes (content_in doc).version pin
  pub fresh : Fresh (content_in doc).expires now
  pub authority_is : authority_of root documents v ≡ Some authority
  pub met : Meets crypto authority.keys authority.role doc

-- a visit's document is trusted; a visit without one is of a name that isn't pinned
abbrev pub IsTrustedVisit : Crypto → Root → Snapshot → (List ℕ → Option Targets) → jiff.Timestamp → Visit → Option (List ℕ) → Type 0
IsTrustedVisit crypto root snapshot documents now v None = is_pinned snapshot v.name ≡ false
IsTrustedVisit crypto root snapshot documents now v (Some bytes) = IsTrustedRole crypto root snapshot documents now v bytes

-- the first of a list is this one
abbrev pub BeginsWith : List ℕ → List (List ℕ) → Type 0
BeginsWith bytes [] = ⊥
BeginsWith bytes (first ∷ later) = first ≡ bytes

-- Roots' bytes, from the given ones on: they read as documents of which the first meets its own role and each later one is
-- the next root after its predecessor, and the last is this root.
pub record AreRoots (crypto : Crypto) (given : List ℕ) (roots : List (List ℕ)) (root : Document Root) : Type 0 where
  pub begins : BeginsWith given roots
  pub first : Document Root
  pub documents : List (Document Root)
  pub read : AllZip (λ bytes doc. root_document bytes ≡ Ok doc) roots documents
  pub next : Roots crypto first documents
  pub last : last_or None documents ≡ Some root

-- the documents that a chain's bytes read as
pub record Reading : Type 0 where
  pub root : Document Root
  pub timestamp : Document Timestamp
  pub snapshot : Document Snapshot
  pub pin : MetaFile

-- The chain is trusted, read so: its roots begin with the given bytes; root, timestamp and snapshot are fresh; timestamp and
-- snapshot meet the root's roles; the timestamp pins the snapshot at its version; the roles are the visits of the search, the
-- last of which lists the target; each document of a role is trusted; and the file is the target's.
pub record TrustedAs (crypto : Crypto) (given : List ℕ) (now : jiff.Timestamp) (max : ℕ) (path : List ℕ)
    (chain : TrustChain) (is : Reading) : Type 0 where
  pub roots : AreRoots crypto given chain.roots is.root
  pub root_fresh : Fresh (content_in is.root).expires now
  pub timestamp_read : timestamp_document chain.timestamp ≡ Ok is.timestamp
  pub timestamp_fresh : Fresh (content_in is.timestamp).expires now
  pub timestamp_met : MeetsRole crypto (content_in is.root) (codes "timestamp") is.timestamp
  pub snapshot_read : snapshot_document chain.snapshot ≡ Ok is.snapshot
  pub snapshot_fresh : Fresh (content_in is.snapshot).expires now
  pub snapshot_met : MeetsRole crypto (content_in is.root) (codes "snapshot") is.snapshot
  pub pin_is : snapshot_pin (content_in is.timestamp) ≡ Some is.pin
  pub snapshot_version : (content_in is.snapshot).version ≡ is.pin.version
  pub order_is : order (documents_in chain.roles) (content_in is.snapshot) path max ≡ Some (map visit_in chain.roles)
  pub listed : option_and_then (λ (doc : Targets). at_name path doc.targets) (last_in chain.roles) ≡ Some chain.target
  pub roles : AllByRecursion (λ (r : RoleDoc). IsTrustedVisit crypto (content_in is.root) (content_in is.snapshot)
      (documents_in chain.roles) now (visit_in r) r.bytes) chain.roles
  pub file : PinnedFile chain.file chain.target

abbrev pub Trusted : Crypto → List ℕ → jiff.Timestamp → ℕ → List ℕ → TrustChain → Type 0
Trusted crypto given now max path chain = (is : Reading) × TrustedAs crypto given now max path chain is
