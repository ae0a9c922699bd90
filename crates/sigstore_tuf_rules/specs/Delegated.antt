-- What each call for a delegated role answers: the documents in force after it, or the first check that fails (TUF specification,
-- sections 4.5 and 5.6.7).
use Rattle.std.specs.Prelude.{ℕ, List, if◌then◌else◌, Option, ok_or, Result, Ok, Err, codes, ⊤}
use Rattle.std.specs.BTreeMap.{insert_entry}
use Rattle.jiff_core.specs.declared.timestamp.Timestamp as jiff
use Rattle.foundation.specs.Steps.{◌>>=◌}
use Rattle.sigstore_types_parts.specs.Entries.{at_name, text_cmp}
use Rattle.sigstore_keys.specs.Crypto.{Crypto}
use Rattle.sigstore_tuf_text.specs.declared.error.Error.{Error}
use Rattle.sigstore_tuf_text.specs.declared.error.Error.TheVariants.{Malformed, UnknownRole}
use Rattle.sigstore_tuf_text.specs.declared.error.Rule.TheVariants as rule
use Rattle.sigstore_tuf_parts.specs.declared.targets.Targets.{Targets}
use Rattle.sigstore_tuf_parts.specs.declared.timestamp.MetaFile.{MetaFile}
use Rattle.sigstore_tuf_parts.specs.Document.{Document, content_in}
use Rattle.sigstore_tuf_parts.specs.Integrity.{integrity_of, version_of, fresh_of}
use Rattle.sigstore_tuf_text.specs.Names.{pin_name}
use Rattle.sigstore_tuf_parts.specs.Targets.{role_keys_in}
use Rattle.sigstore_tuf_parts.specs.Threshold.{meets_of}
use Rattle.sigstore_tuf_rules.specs.declared.delegated.Delegation as declared
use Rattle.sigstore_tuf_rules.specs.declared.documents.Held.{Held}
use Rattle.sigstore_tuf_rules.specs.declared.documents.InForce.{InForce}
use Rattle.sigstore_tuf_rules.specs.Documents.{targets_document, content_of}
use Rattle.sigstore_tuf_rules.specs.Order.{Visit, is_top_level}
use Rattle.sigstore_tuf_rules.specs.Trusted.{RoleAuthority, authority_in}
use Rattle.sigstore_tuf_rules.specs.Update.{fresh_at_of}

-- ---- the delegation

-- A top-level role is the root's to name: else whoever signs a targets document would put a key of his own in the place of the root's.
abbrev pub not_top_level_of : List ℕ → Result ⊤ Error
not_top_level_of name = if is_top_level name then Err (Malformed rule.TopLevel) else Ok tt

-- Who signs for a role, as the document of its delegator in force says. The first delegation of its name counts (4.5, 'in order of
-- appearance'): else a later one takes the role from those whom the delegator named first.
unfoldable pub delegation_of : InForce → Visit → Result RoleAuthority Error
delegation_of set v = do
  _ ← not_top_level_of v.name
  delegator ← ok_or (at_name v.delegator set.targets) (UnknownRole v.delegator)
  delegations ← ok_or (content_of delegator).delegations (Malformed rule.NoDelegations)
  ok_or (authority_in v.name delegations) (UnknownRole v.name)

-- the same, of what the code finds
abbrev pub authority_by : declared.Delegation → RoleAuthority
authority_by d = record { keys = d.keys.now; role = role_keys_in d.role.now }

-- its signatures are those that the delegation asks for ('arbitrary software attack')
abbrev pub meets_delegation_of : Crypto → RoleAuthority → List ℕ → Document Targets → Result ⊤ Error
meets_delegation_of crypto authority name doc = meets_of crypto authority.keys authority.role name doc

-- ---- the update

abbrev pub with_role : InForce → List ℕ → Held Targets → InForce
with_role set name new = record set { targets = insert_entry text_cmp set.targets name new }

-- The pin of a role's document in the snapshot in force, which isn't expired. It stands under the role's name as it is, whatever the
-- name of its file.
unfoldable pub role_pin_of : InForce → List ℕ → Option jiff.Timestamp → Result MetaFile Error
role_pin_of set name now = do
  snapshot ← ok_or set.snapshot (Malformed rule.NoSnapshot)
  _ ← fresh_at_of (codes "snapshot") (content_of snapshot).expires now
  ok_or (at_name (pin_name name) (content_of snapshot).meta) (Malformed rule.Unpinned)

-- the checks of a document that was read, for its pin and its delegation: as those of the top-level targets document
unfoldable pub role_checks_of : Crypto → RoleAuthority → MetaFile → List ℕ → Document Targets → Option jiff.Timestamp → Result ⊤ Error
role_checks_of crypto authority pin name new now = do
  _ ← version_of pin (content_in new).version
  _ ← meets_delegation_of crypto authority name new
  fresh_at_of name (content_in new).expires now

-- the document of these bytes, for its pin
unfoldable pub role_document_of : Crypto → RoleAuthority → MetaFile → List ℕ → List ℕ → Option jiff.Timestamp → Result (Document Targets) Error
role_document_of crypto authority pin name bytes now = do
  _ ← integrity_of pin.length pin.hashes bytes
  new ← targets_document bytes
  _ ← role_checks_of crypto authority pin name new now
  Ok new

unfoldable pub update_role_of : Crypto → InForce → Visit → List ℕ → Option jiff.Timestamp → Result InForce Error
update_role_of crypto set v bytes now = do
  authority ← delegation_of set v
  pin ← role_pin_of set v.name now
  new ← role_document_of crypto authority pin v.name bytes now
  Ok (with_role set v.name (record { bytes = bytes; document = new }))

-- ---- a role in force, looked at again

-- Its delegator may be another one now than when it was adopted, or have another document, and its day may have passed. That it is the
-- pinned one holds as long as it is in force.
unfoldable pub role_serves_of : Crypto → InForce → Visit → jiff.Timestamp → Result ⊤ Error
role_serves_of crypto set v now = do
  authority ← delegation_of set v
  role ← ok_or (at_name v.name set.targets) (UnknownRole v.name)
  _ ← meets_delegation_of crypto authority v.name role.document
  fresh_of v.name (content_of role).expires now
