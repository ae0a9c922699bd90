-- The log that has all bodies of a workload (C2SP tlog-checkpoint), and the bundle of each item.
use Rattle.std.specs.Prelude.{◌≡◌, ℕ, List, [], ◌∷◌, ◌++◌, codes, Some, None, Ok}
use Rattle.std.specs.Fmt.{decimal}
use Rattle.sigstore_entries.specs.Checkpoint.{dash}
use Rattle.sigstore_entries.specs.Entry.{checkpoint_data_of}
use Rattle.sigstore_entries.specs.declared.entry.TransparencyLogEntry.{TransparencyLogEntry}
use Rattle.sigstore_entries.specs.declared.inclusion_proof.InclusionProof.{InclusionProof}
use Rattle.sigstore_entries.specs.declared.kind_version.KindVersion.TheVariants.{HashedRekordV002}
use Rattle.sigstore_entries.specs.declared.log_index.LogIndex.{LogIndex}
use Rattle.sigstore_types.specs.declared.bundle.Bundle.{Bundle}
use Rattle.sigstore_types.specs.declared.material.VerificationMaterial.{VerificationMaterial}
use Rattle.sigstore_types.specs.declared.material.VerificationMaterialContent.TheVariants.{PublicKey}
use Rattle.workload.specs.Keys.{log_id, base64_of}
use Rattle.sigstore_merkle.specs.Whole.{Path}
use Rattle.workload.specs.declared.drawn.Drawn.{Drawn}
use Rattle.workload.specs.declared.log.Log.{Log}

-- ---- the checkpoint

abbrev pub signed_written : ℕ → List ℕ → List ℕ
signed_written size root = codes "log\n" ++ (decimal size ++ (10 ∷ root ++ 10 ∷ []))

-- what the log signs: its name, the tree's size and the tree's root
abbrev pub signed_text_of : ℕ → List ℕ → List ℕ
signed_text_of size root = signed_written size (base64_of root)

-- with one signature of the log: the hint of its key, four octets 7, and the signature `c`
abbrev pub checkpoint_written : List ℕ → List ℕ
checkpoint_written signed = signed ++ (10 ∷ dash ++ codes " log BwcHB2M=\n")

abbrev pub checkpoint_text_of : ℕ → List ℕ → List ℕ
checkpoint_text_of size root = checkpoint_written (signed_text_of size root)

-- the log of so many entries with this root
pub record IsLog (size : ℕ) (root : List ℕ) (log : Log) : Type 0 where
  pub size_is : log.size ≡ size
  pub root_is : log.root ≡ root
  pub checkpoint : checkpoint_data_of (checkpoint_text_of size root) ≡ Ok log.checkpoint

-- ---- bundles

abbrev pub proof_of : Log → LogIndex → Path → InclusionProof
proof_of log index path = record {
  log_index = index;
  root_hash = log.root;
  tree_size = log.size;
  hashes = path;
  checkpoint = log.checkpoint;
}

-- the entry of an item: its place, and its path in the tree
abbrev pub entry_of : Log → LogIndex → Drawn → Path → TransparencyLogEntry
entry_of log index drawn path = record {
  log_index = index;
  log_id = record { key_id = log_id };
  kind_version = HashedRekordV002;
  integrated_time = None;
  inclusion_promise = None;
  inclusion_proof = Some (proof_of log index path);
  canonicalized_body = drawn.body;
}

abbrev pub material_of : TransparencyLogEntry → VerificationMaterial
material_of entry = record { content = PublicKey (Some (codes "k")); tlog_entries = entry ∷ []; rfc3161_timestamps = [] }

abbrev pub bundle_of : Log → LogIndex → Drawn → Path → Bundle
bundle_of log index drawn path = record {
  media_type = codes "application/vnd.dev.sigstore.bundle.v0.3+json";
  content = drawn.content;
  verification_material = material_of (entry_of log index drawn path);
}
