-- The relation of a checkpoint that witnesses cosigned (C2SP tlog-cosignature), told without any order.
use Rattle.std.specs.Prelude.{◌≡◌, ◌↔◌, ℕ, ◌≤◌, List, length, drop, true, bytes_eq, Contains}
use Rattle.std.specs.List.{AllByRecursion, IsDistinct}
use Rattle.sigstore_keys.specs.Good.{Judge}
use Rattle.sigstore_keys.specs.declared.scheme.SigningScheme.TheVariants.{Ed25519}
use Rattle.sigstore_entries.specs.Checkpoint.{signed_data_of}
use Rattle.sigstore_entries.specs.declared.checkpoint.Checkpoint.{Checkpoint}
use Rattle.sigstore_entries.specs.declared.signature_line.CheckpointSignature.{CheckpointSignature}
use Rattle.sigstore_log.specs.Signed.{looked_at}
use Rattle.log_witnesses.specs.Witness.{key_id_of}
use Rattle.log_witnesses.specs.Cosigned.{moment_of, cosigned_text, cosigned_by}
use Rattle.log_witnesses.specs.declared.witness.Witness.{Witness}

-- the key is that of a witness, and a line of its name and key ID has a moment and a good signature over the checkpoint's text at that moment
pub record Cosigns (accepts : Judge) (witnesses : List Witness) (checkpoint : Checkpoint) (key : List ℕ) : Type 0 where
  pub witness : Witness
  pub trusted : Contains witnesses witness
  pub its : witness.key ≡ key
  pub line : CheckpointSignature
  pub there : Contains (looked_at checkpoint.signatures) line
  pub name : line.name ≡ witness.name
  pub key_id : line.key_id ≡ key_id_of witness
  pub size : length line.signature ≡ 72
  pub good : accepts Ed25519 key (cosigned_text (moment_of line.signature) (signed_data_of checkpoint)) (drop 8 line.signature) ≡ true

-- at least so many different keys do
pub record IsCosigned (accepts : Judge) (asked : ℕ) (witnesses : List Witness) (checkpoint : Checkpoint) : Type 0 where
  pub keys : List (List ℕ)
  pub distinct : IsDistinct bytes_eq keys
  pub cosign : AllByRecursion (Cosigns accepts witnesses checkpoint) keys
  pub enough : asked ≤ length keys

-- the count reaches a number exactly where as many do
abbrev pub CosignedExactly : Type 0
CosignedExactly = (accepts : Judge) (asked : ℕ) (witnesses : List Witness) (checkpoint : Checkpoint)
    → (asked ≤ cosigned_by accepts witnesses checkpoint) ↔ IsCosigned accepts asked witnesses checkpoint
