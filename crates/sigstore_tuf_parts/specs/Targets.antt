-- The targets document, and the roles that it delegates to (TUF specification, section 4.5).
use Rattle.std.specs.Prelude.{[], ◌∷◌, false, Result, Ok}
use Rattle.serde_json.specs.Data.{Data}
use Rattle.foundation.specs.Steps.{◌>>=◌}
use Rattle.sigstore_tuf_text.specs.declared.error.Error.{Error}
use Rattle.sigstore_tuf_text.specs.declared.member.DocumentMember.TheVariants as m
use Rattle.sigstore_tuf_text.specs.Others.{others_of}
use Rattle.sigstore_tuf_parts.specs.declared.keys.RoleKeys.{RoleKeys}
use Rattle.sigstore_tuf_parts.specs.declared.targets.TargetFile.{TargetFile}
use Rattle.sigstore_tuf_parts.specs.declared.targets.Grant.{Grant}
use Rattle.sigstore_tuf_parts.specs.declared.targets.DelegatedRole.{DelegatedRole}
use Rattle.sigstore_tuf_parts.specs.declared.targets.Delegations.{Delegations}
use Rattle.sigstore_tuf_parts.specs.declared.targets.Targets.{Targets}
use Rattle.sigstore_tuf_text.specs.Words.{required, optional, defaulted, u64, bool, text, json, sequence, map}
use Rattle.sigstore_tuf_parts.specs.Head.{head_of}
use Rattle.sigstore_tuf_parts.specs.Keys.{key_in_of}

unfoldable pub target_file_of : Data → Result TargetFile Error
target_file_of d = do
  length ← required u64 m.Length d
  hashes ← required (map text) m.Hashes d
  custom ← optional json m.Custom d
  Ok (record { length = length; hashes = hashes; custom = custom; extra = others_of (m.Length ∷ m.Hashes ∷ m.Custom ∷ []) d })

-- the name of a role, and what is asked of its documents
unfoldable pub grant_of : Data → Result Grant Error
grant_of d = do
  name ← required text m.Name d
  keyids ← required (sequence text) m.Keyids d
  threshold ← required u64 m.Threshold d
  Ok (record { name = name; keyids = keyids; threshold = threshold })

unfoldable pub delegated_role_of : Data → Result DelegatedRole Error
delegated_role_of d = do
  grant ← grant_of d
  terminating ← defaulted bool m.Terminating false d
  paths ← optional (sequence text) m.Paths d
  prefixes ← optional (sequence text) m.PathHashPrefixes d
  Ok (record {
    name = grant.name;
    keyids = grant.keyids;
    threshold = grant.threshold;
    terminating = terminating;
    paths = paths;
    path_hash_prefixes = prefixes;
    extra = others_of (m.Name ∷ m.Keyids ∷ m.Threshold ∷ m.Terminating ∷ m.Paths ∷ m.PathHashPrefixes ∷ []) d;
  })

unfoldable pub delegations_of : Data → Result Delegations Error
delegations_of d = do
  keys ← required (map key_in_of) m.Keys d
  roles ← defaulted (sequence delegated_role_of) m.Roles [] d
  Ok (record { keys = keys; roles = roles; extra = others_of (m.Keys ∷ m.Roles ∷ []) d })

unfoldable pub targets_of : Data → Result Targets Error
targets_of d = do
  head ← head_of d
  targets ← required (map target_file_of) m.Targets d
  delegations ← optional delegations_of m.Delegations d
  Ok (record {
    type_ = head.type_;
    spec_version = head.spec_version;
    version = head.version;
    expires = head.expires;
    targets = targets;
    delegations = delegations;
    extra = others_of (m.Type ∷ m.SpecVersion ∷ m.Version ∷ m.Expires ∷ m.Targets ∷ m.Delegations ∷ []) d;
  })

-- the keys that sign for a delegated role: its ids and threshold, and no more members
abbrev pub role_keys_in : DelegatedRole → RoleKeys
role_keys_in d = record { keyids = d.keyids; threshold = d.threshold; extra = [] }
