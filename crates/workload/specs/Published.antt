-- The fixed repository, and the chain of documents by which it offers its trust file (TUF specification, section 5).
use Rattle.std.specs.Prelude.{ℕ, List, [], ◌∷◌, length, Some, None, codes}
use Rattle.sha2.specs.Sha256.{sha256}
use Rattle.hex.specs.Hex.{encode_lower}
use Rattle.sigstore_tuf_text.specs.Names.{timestamp_name, snapshot_name, targets_name}
use Rattle.sigstore_tuf_parts.specs.declared.targets.TargetFile.{TargetFile}
use Rattle.sigstore_tuf_outside.specs.Repository.{Folders}
use Rattle.sigstore_tuf_outside.specs.Memory.{no_folders, with_metadata, with_target}
use Rattle.sigstore_tuf_rules.specs.declared.chain.RoleDoc.{RoleDoc}
use Rattle.sigstore_tuf_rules.specs.declared.chain.TrustChain.{TrustChain}
use Rattle.workload.specs.Trust.{trust_file}
use Rattle.workload.specs.Documents.{root_bytes, timestamp_bytes, snapshot_bytes, targets_bytes}

abbrev pub trust_name : List ℕ
trust_name = codes "trusted_root.json"

-- a timestamp, a snapshot and a targets document, beside the trust file
unfoldable pub publishing : List ℕ → List ℕ → List ℕ → Folders
publishing timestamp snapshot targets = with_target trust_name trust_file (with_metadata targets_name targets
    (with_metadata snapshot_name snapshot (with_metadata timestamp_name timestamp no_folders)))

-- those of this repository; the root is given to the client, and has no next
unfoldable pub published : Folders
published = publishing timestamp_bytes snapshot_bytes targets_bytes

-- the trust file as the targets document lists it
unfoldable pub target : TargetFile
target = record {
  length = length trust_file;
  hashes = (codes "sha256", encode_lower (sha256 trust_file)) ∷ [];
  custom = None;
  extra = [];
}

-- the one visit of the search
unfoldable pub targets_role : RoleDoc
targets_role = record { name = codes "targets"; delegator = codes "root"; bytes = Some targets_bytes }

unfoldable pub chain : TrustChain
chain = record {
  roots = root_bytes ∷ [];
  timestamp = timestamp_bytes;
  snapshot = snapshot_bytes;
  roles = targets_role ∷ [];
  target = target;
  file = trust_file;
}
