-- What each refusal of an entry tells of it (RFC 6962, sections 2.1.1 and 3.2; C2SP tlog-checkpoint).
use Rattle.std.specs.Prelude.{◌≡◌, ◌≢◌, ℕ, ℤ, List, length, true, false, Some, None, Ok, Err, int_lt}
use Rattle.jiff_core.specs.declared.timestamp.Timestamp.{Timestamp}
use Rattle.sigstore_types_parts.specs.Instant.{at_second}
use Rattle.sigstore_keys.specs.declared.key.VerificationKey.{VerificationKey}
use Rattle.sigstore_keys.specs.Good.{Judge}
use Rattle.sigstore_keys.specs.Keyring.{Ring, key_at, key_by}
use Rattle.sigstore_merkle.specs.Tree.{leaf_hash, root_from}
use Rattle.sigstore_entries.specs.declared.checkpoint.Checkpoint.{Checkpoint}
use Rattle.sigstore_entries.specs.declared.inclusion_proof.InclusionProof.{InclusionProof}
use Rattle.sigstore_entries.specs.declared.kind_version.KindVersion.TheVariants.{HashedRekordV002}
use Rattle.sigstore_entries.specs.declared.entry.TransparencyLogEntry.{TransparencyLogEntry}
use Rattle.sigstore_entries.specs.Promise.{payload_of}
use Rattle.sigstore_log.specs.declared.error.LogError.{LogError}
use Rattle.sigstore_log.specs.declared.error.LogError.TheVariants as refusal
use Rattle.sigstore_log.specs.Entry.{logged_of}
use Rattle.sigstore_log.specs.Inclusion.{Place, place_of}
use Rattle.sigstore_log.specs.Signed.{is_signed_by}
use Rattle.sigstore_log.specs.Promise.{key_of, is_promised, tells_time}

-- there is no proof, or the body's leaf and the proof's hashes don't give the root at the place that counts
pub data LacksPlace (entry : TransparencyLogEntry) : Type 0 where
  no_proof : entry.inclusion_proof ≡ None → LacksPlace entry
  not_there : (proof : InclusionProof) (place : Place) → entry.inclusion_proof ≡ Some proof
      → place_of entry.kind_version entry proof ≡ Some place
      → root_from (leaf_hash entry.canonicalized_body) place.index place.size proof.hashes ≢ Some place.root → LacksPlace entry

-- the entry's proof has this checkpoint
pub record HasCheckpoint (entry : TransparencyLogEntry) (proof : InclusionProof) (checkpoint : Checkpoint) : Type 0 where
  pub proof_is : entry.inclusion_proof ≡ Some proof
  pub checkpoint_is : proof.checkpoint.checkpoint ≡ Some checkpoint

-- the proof has no checkpoint, or one of another tree than its own, or one that no trusted log signed
pub data LacksCheckpoint (accepts : Judge) (logs : Ring) (now : Timestamp) (entry : TransparencyLogEntry) : Type 0 where
  no_checkpoint : (proof : InclusionProof) → entry.inclusion_proof ≡ Some proof → proof.checkpoint.checkpoint ≡ None
      → LacksCheckpoint accepts logs now entry
  other_tree : (proof : InclusionProof) (checkpoint : Checkpoint) → HasCheckpoint entry proof checkpoint
      → entry.kind_version ≢ HashedRekordV002 → checkpoint.root_hash ≢ proof.root_hash → LacksCheckpoint accepts logs now entry
  unsigned : (proof : InclusionProof) (checkpoint : Checkpoint) → HasCheckpoint entry proof checkpoint
      → is_signed_by accepts logs now checkpoint ≡ false → LacksCheckpoint accepts logs now entry

-- a promise is there, and the log's id isn't a SHA-256 value
pub record HasBadId (entry : TransparencyLogEntry) : Type 0 where
  pub promise : List ℕ
  pub promise_is : entry.inclusion_promise ≡ Some promise
  pub length_is : length entry.log_id.key_id ≢ 32

-- a promise without a time is there, and no trusted log of this id has started by now
pub record IsOfUnknown (logs : Ring) (now : Timestamp) (entry : TransparencyLogEntry) (id : List ℕ) : Type 0 where
  pub promise : List ℕ
  pub promise_is : entry.inclusion_promise ≡ Some promise
  pub timeless : entry.integrated_time ≡ None
  pub id_is : id ≡ entry.log_id.key_id
  pub unknown : key_by id now logs ≡ None

-- a promise is there; and it tells a time at which the log has no key, or it isn't good under the log's key over the entry's payload
pub data IsUnpromised (accepts : Judge) (logs : Ring) (now : Timestamp) (entry : TransparencyLogEntry) : Type 0 where
  no_key : (promise : List ℕ) (time : ℤ) → entry.inclusion_promise ≡ Some promise → entry.integrated_time ≡ Some time
      → key_at entry.log_id.key_id (at_second time) logs ≡ None → IsUnpromised accepts logs now entry
  not_good : (promise : List ℕ) (key : VerificationKey) → entry.inclusion_promise ≡ Some promise
      → key_of logs now entry.log_id.key_id entry.integrated_time ≡ Ok key
      → is_promised accepts key (payload_of entry) promise ≡ false → IsUnpromised accepts logs now entry

-- a promise is there whose kind tells a time, and its time is after now
pub record IsAhead (now : Timestamp) (entry : TransparencyLogEntry) : Type 0 where
  pub promise : List ℕ
  pub promise_is : entry.inclusion_promise ≡ Some promise
  pub tells : tells_time entry.kind_version ≡ true
  pub time : ℤ
  pub time_is : entry.integrated_time ≡ Some time
  pub ahead : int_lt now.nanosecond (at_second time).nanosecond ≡ true

-- each refusal of an entry, by its name
abbrev pub LogCause : Judge → Ring → Timestamp → TransparencyLogEntry → LogError → Type 0
LogCause accepts logs now entry refusal.InclusionProof = LacksPlace entry
LogCause accepts logs now entry refusal.Checkpoint = LacksCheckpoint accepts logs now entry
LogCause accepts logs now entry refusal.MalformedEntry = HasBadId entry
LogCause accepts logs now entry (refusal.UnknownLog id) = IsOfUnknown logs now entry id
LogCause accepts logs now entry refusal.InclusionPromise = IsUnpromised accepts logs now entry
LogCause accepts logs now entry refusal.IntegratedTime = IsAhead now entry
LogCause accepts logs now entry refusal.NoMemory = ⊥

-- a refusal comes only where its cause holds; want of memory is none of the definition's
abbrev pub RefusalsHaveCauses : Type 0
RefusalsHaveCauses = (accepts : Judge) (logs : Ring) (now : Timestamp) (entry : TransparencyLogEntry) (e : LogError)
    → logged_of accepts logs now entry ≡ Err e → LogCause accepts logs now entry e
