-- Entries of a log's answers as bundles have them (Sigstore protobuf specs, sigstore_rekor.proto).
use Rattle.std.specs.Prelude.{ℕ, List, Option, Some, None, Result, Ok}
use Rattle.foundation.specs.Steps.{◌>>=◌}
use Rattle.sigstore_types_parts.specs.declared.error.TypesError.{TypesError}
use Rattle.sigstore_entries.specs.Entry.{checkpoint_data_of}
use Rattle.sigstore_entries.specs.declared.inclusion_proof.InclusionProof.{InclusionProof}
use Rattle.sigstore_entries.specs.declared.kind_version.KindVersion.{KindVersion}
use Rattle.sigstore_entries.specs.declared.entry.TransparencyLogEntry.{TransparencyLogEntry}
use Rattle.sigstore_rekor_parts.specs.Hex.{unhexed_of}
use Rattle.sigstore_rekor.specs.declared.log_entry.RekorInclusionProof.{RekorInclusionProof}
use Rattle.sigstore_rekor.specs.declared.log_entry.Verification.{Verification}
use Rattle.sigstore_rekor.specs.declared.log_entry.LogEntry.{LogEntry}

-- the checkpoint is the empty text or a checkpoint
unfoldable pub proof_of : RekorInclusionProof → Result InclusionProof TypesError
proof_of proof = do
  checkpoint ← checkpoint_data_of proof.checkpoint
  Ok (record {
    log_index = proof.log_index;
    root_hash = proof.root_hash;
    tree_size = proof.tree_size;
    hashes = proof.hashes;
    checkpoint = checkpoint;
  })

abbrev pub optional_proof_of : Option RekorInclusionProof → Result (Option InclusionProof) TypesError
optional_proof_of None = Ok None
optional_proof_of (Some proof) = proof_of proof >>= λ found. Ok (Some found)

abbrev pub proof_in : Option Verification → Result (Option InclusionProof) TypesError
proof_in None = Ok None
proof_in (Some verification) = optional_proof_of verification.inclusion_proof

abbrev pub promise_in : Option Verification → Option (List ℕ)
promise_in None = None
promise_in (Some verification) = verification.signed_entry_timestamp

-- the time is kept as it is
unfoldable pub bundle_entry_of : LogEntry → KindVersion → Result TransparencyLogEntry TypesError
bundle_entry_of entry kind = do
  key_id ← unhexed_of entry.log_id
  proof ← proof_in entry.verification
  Ok (record {
    log_index = entry.log_index;
    log_id = record { key_id = key_id };
    kind_version = kind;
    integrated_time = entry.integrated_time;
    inclusion_promise = promise_in entry.verification;
    inclusion_proof = proof;
    canonicalized_body = entry.body;
  })
