-- Entries of transparency logs as they are written as JSON (Sigstore protobuf specs, sigstore_rekor.proto).
use Rattle.std.specs.Prelude.{ℕ, List, [], ◌∷◌, option_map, Option, Some}
use Rattle.serde_json.specs.Data.{Data, string}
use Rattle.sigstore_types_parts.specs.declared.member.TypesMember.{TypesMember}
use Rattle.sigstore_types_parts.specs.declared.member.TypesMember.TheVariants as m
use Rattle.sigstore_entries.specs.Entry.{kind_name_of, version_name_of}
use Rattle.sigstore_entries.specs.Writing.{octets_data, unsigned_data, signed_data, some_list, object_of, holding}
use Rattle.sigstore_entries.specs.declared.checkpoint.Checkpoint.{Checkpoint}
use Rattle.sigstore_entries.specs.declared.entry.TransparencyLogEntry.{TransparencyLogEntry}
use Rattle.sigstore_entries.specs.declared.inclusion_proof.InclusionProof.{InclusionProof}
use Rattle.sigstore_entries.specs.declared.kind_version.KindVersion.{KindVersion}
use Rattle.sigstore_entries.specs.declared.log_id.LogId.{LogId}
use Rattle.sigstore_entries.specs.declared.log_index.LogIndex.{LogIndex}

abbrev pub place_data : LogIndex → Data
place_data place = unsigned_data place.value

unfoldable pub log_id_data : LogId → Data
log_id_data log = holding m.KeyId (octets_data log.key_id)

abbrev pub kind_version_members : KindVersion → List (TypesMember × Option Data)
kind_version_members kind =
    (m.Kind, Some (string (kind_name_of kind)))
    ∷ (m.Version, Some (string (version_name_of kind)))
    ∷ []

unfoldable pub kind_version_data : KindVersion → Data
kind_version_data kind = object_of (kind_version_members kind)

-- Checkpoint: the text that was read
unfoldable pub checkpoint_data : Checkpoint → Data
checkpoint_data checkpoint = holding m.Envelope (string checkpoint.text)

-- InclusionProof; a path of no hash is left out, and a checkpoint that is the empty text
abbrev pub proof_members : InclusionProof → List (TypesMember × Option Data)
proof_members proof =
    (m.Checkpoint, option_map checkpoint_data proof.checkpoint.checkpoint)
    ∷ (m.Hashes, some_list octets_data proof.hashes)
    ∷ (m.LogIndex, Some (place_data proof.log_index))
    ∷ (m.RootHash, Some (octets_data proof.root_hash))
    ∷ (m.TreeSize, Some (unsigned_data proof.tree_size))
    ∷ []

unfoldable pub proof_data : InclusionProof → Data
proof_data proof = object_of (proof_members proof)

-- InclusionPromise
abbrev pub promise_data : List ℕ → Data
promise_data timestamp = holding m.SignedEntryTimestamp (octets_data timestamp)

-- TransparencyLogEntry
abbrev pub entry_members : TransparencyLogEntry → List (TypesMember × Option Data)
entry_members entry =
    (m.CanonicalizedBody, Some (octets_data entry.canonicalized_body))
    ∷ (m.InclusionPromise, option_map promise_data entry.inclusion_promise)
    ∷ (m.InclusionProof, option_map proof_data entry.inclusion_proof)
    ∷ (m.IntegratedTime, option_map signed_data entry.integrated_time)
    ∷ (m.KindVersion, Some (kind_version_data entry.kind_version))
    ∷ (m.LogId, Some (log_id_data entry.log_id))
    ∷ (m.LogIndex, Some (place_data entry.log_index))
    ∷ []

unfoldable pub entry_data : TransparencyLogEntry → Data
entry_data entry = object_of (entry_members entry)
