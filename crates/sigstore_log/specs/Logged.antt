-- What it means that an entry is logged, told without any order of checks (RFC 6962, sections 2.1.1 and 3.2; C2SP tlog-checkpoint).
use Rattle.std.specs.Prelude.{◌≡◌, ◌↔◌, ℕ, List, length, true, false, ⊤, Option, Some, None, Ok, IsTrue, Contains}
use Rattle.std.specs.Ordering.{is_gt}
use Rattle.jiff_core.specs.declared.timestamp.Timestamp.{Timestamp}
use Rattle.sigstore_types_parts.specs.Entries.{text_cmp}
use Rattle.sigstore_keys.specs.declared.key.VerificationKey.{VerificationKey}
use Rattle.sigstore_keys.specs.declared.keyring.HeldKey.{HeldKey}
use Rattle.sigstore_keys.specs.Good.{Judge, is_good}
use Rattle.sigstore_keys.specs.Keyring.{Ring, is_meant}
use Rattle.sigstore_merkle.specs.Tree.{leaf_hash, root_from}
use Rattle.sigstore_entries.specs.declared.checkpoint.Checkpoint.{Checkpoint}
use Rattle.sigstore_entries.specs.declared.inclusion_proof.InclusionProof.{InclusionProof}
use Rattle.sigstore_entries.specs.declared.kind_version.KindVersion.{KindVersion}
use Rattle.sigstore_entries.specs.declared.kind_version.KindVersion.TheVariants.{HashedRekordV001, HashedRekordV002}
use Rattle.sigstore_entries.specs.declared.kind_version.KindVersion.TheVariants.{DsseV001, DsseV002, IntotoV002}
use Rattle.sigstore_entries.specs.declared.signature_line.CheckpointSignature.{CheckpointSignature}
use Rattle.sigstore_entries.specs.declared.entry.TransparencyLogEntry.{TransparencyLogEntry}
use Rattle.sigstore_entries.specs.Checkpoint.{signed_data_of}
use Rattle.sigstore_entries.specs.Promise.{payload_of}
use Rattle.sigstore_log.specs.Entry.{logged_of}
use Rattle.sigstore_log.specs.Inclusion.{Place, place_of}
use Rattle.sigstore_log.specs.Signed.{looked_at, signer_of}
use Rattle.sigstore_log.specs.Promise.{key_of, tells_time, is_past_or_now, told_time}

-- some line that is looked at has the first four bytes of a trusted log's id, the log's window has started by now, and the line's
-- signature is good under its key over the signed text
pub record SignedBy (accepts : Judge) (logs : Ring) (now : Timestamp) (checkpoint : Checkpoint) : Type 0 where
  pub line : CheckpointSignature
  pub among : Contains (looked_at checkpoint.signatures) line
  pub id : List ℕ
  pub log : HeldKey
  pub trusted : Contains logs (id, log)
  pub meant : IsTrue (is_meant line.key_id now (id, log))
  pub good : IsTrue (is_good accepts log.key (signed_data_of checkpoint) line.signature)

-- the same of this log
pub record IsSigner (accepts : Judge) (logs : Ring) (now : Timestamp) (checkpoint : Checkpoint) (id : List ℕ) : Type 0 where
  pub line : CheckpointSignature
  pub among : Contains (looked_at checkpoint.signatures) line
  pub log : HeldKey
  pub trusted : Contains logs (id, log)
  pub meant : IsTrue (is_meant line.key_id now (id, log))
  pub good : IsTrue (is_good accepts log.key (signed_data_of checkpoint) line.signature)

-- no log of an id that is less, by its bytes, signed it
abbrev pub IsLeast : Judge → Ring → Timestamp → Checkpoint → List ℕ → Type 0
IsLeast accepts logs now checkpoint id =
    (other : List ℕ) → IsSigner accepts logs now checkpoint other → is_gt (text_cmp id other) ≡ false

-- the log of a checkpoint is, of those that signed it, the one of the least id
abbrev pub SignerExactly : Type 0
SignerExactly = (accepts : Judge) (logs : Ring) (now : Timestamp) (checkpoint : Checkpoint) (id : List ℕ)
    → (signer_of accepts logs now checkpoint ≡ Some id) ↔ (IsSigner accepts logs now checkpoint id × IsLeast accepts logs now checkpoint id)

-- the tree in which the entry was found is the checkpoint's: its root is the proof's; for hashedrekord 0.0.2 it was found by the
-- checkpoint's own
abbrev pub IsOfTree : KindVersion → InclusionProof → Checkpoint → Type 0
IsOfTree HashedRekordV001 proof checkpoint = checkpoint.root_hash ≡ proof.root_hash
IsOfTree HashedRekordV002 proof checkpoint = ⊤
IsOfTree DsseV001 proof checkpoint = checkpoint.root_hash ≡ proof.root_hash
IsOfTree DsseV002 proof checkpoint = checkpoint.root_hash ≡ proof.root_hash
IsOfTree IntotoV002 proof checkpoint = checkpoint.root_hash ≡ proof.root_hash

-- The promise is the log's, over the entry's payload, under the key that counts for its time; and where the kind's promise tells a
-- time, that isn't after now.
pub record Promised (accepts : Judge) (logs : Ring) (now : Timestamp) (entry : TransparencyLogEntry) (promise : List ℕ) : Type 0 where
  pub key : VerificationKey
  pub key_is : key_of logs now entry.log_id.key_id entry.integrated_time ≡ Ok key
  pub payload : List ℕ
  pub payload_is : payload_of entry ≡ Some payload
  pub good : IsTrue (is_good accepts key payload promise)
  pub past : tells_time entry.kind_version ≡ true → IsTrue (is_past_or_now now entry.integrated_time)

-- the log's id has 32 bytes and the promise is the log's, where there is one
abbrev pub IsPromised : Judge → Ring → Timestamp → TransparencyLogEntry → Option (List ℕ) → Type 0
IsPromised accepts logs now entry None = ⊤
IsPromised accepts logs now entry (Some promise) = (length entry.log_id.key_id ≡ 32) × Promised accepts logs now entry promise

-- The entry's proof and its checkpoint: the body's leaf and the proof's hashes give the root at the place that counts, the checkpoint is
-- of that tree and signed by a trusted log, and a promise that the entry brings is the log's.
pub record Logged (accepts : Judge) (logs : Ring) (now : Timestamp) (entry : TransparencyLogEntry) : Type 0 where
  pub proof : InclusionProof
  pub proof_is : entry.inclusion_proof ≡ Some proof
  pub place : Place
  pub place_is : place_of entry.kind_version entry proof ≡ Some place
  pub stands : root_from (leaf_hash entry.canonicalized_body) place.index place.size proof.hashes ≡ Some place.root
  pub checkpoint : Checkpoint
  pub checkpoint_is : proof.checkpoint.checkpoint ≡ Some checkpoint
  pub of_tree : IsOfTree entry.kind_version proof checkpoint
  pub signed : SignedBy accepts logs now checkpoint
  pub promised : IsPromised accepts logs now entry entry.inclusion_promise

-- the judgement accepts exactly the entries that are logged, with the time that the promise of each tells
abbrev pub LoggedExactly : Type 0
LoggedExactly = (accepts : Judge) (logs : Ring) (now : Timestamp) (entry : TransparencyLogEntry) (time : Option Timestamp)
    → (logged_of accepts logs now entry ≡ Ok time) ↔ (Logged accepts logs now entry × (time ≡ told_time entry))
