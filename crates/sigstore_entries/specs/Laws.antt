-- Laws of checkpoints and of entries.
use lib.Signed.{mag}
use Rattle.std.specs.Prelude.{◌≡◌, ◌<◌, ◌^◌, ℕ, ℤ, List, ◌∷◌, ◌++◌, Option, Some, None, Ok}
use Rattle.serde_json.specs.Data.{Data}
use Rattle.sigstore_entries.specs.Checkpoint.{lines_of, signatures_of, checkpoint_of, signed_data_of}
use Rattle.sigstore_entries.specs.Entry.{checkpoint_data_of, envelope_text_of, entry_of}
use Rattle.sigstore_entries.specs.Written.{entry_data}
use Rattle.sigstore_entries.specs.declared.checkpoint.Checkpoint.{Checkpoint}
use Rattle.sigstore_entries.specs.declared.checkpoint_data.CheckpointData.{CheckpointData}
use Rattle.sigstore_entries.specs.declared.entry.TransparencyLogEntry.{TransparencyLogEntry}

-- a text is what is signed, an empty line and the signature lines
pub record IsParted (text : List ℕ) (checkpoint : Checkpoint) : Type 0 where
  pub kept : checkpoint.text ≡ text
  pub behind : List ℕ
  pub whole : text ≡ signed_data_of checkpoint ++ (10 ∷ behind)
  pub signed_by : signatures_of (lines_of behind) ≡ Ok checkpoint.signatures

-- a checkpoint keeps the text that was read, and its signed data begins that text
abbrev pub CheckpointsAreParted : Type 0
CheckpointsAreParted = (text : List ℕ) (checkpoint : Checkpoint) → checkpoint_of text ≡ Ok checkpoint → IsParted text checkpoint

-- the envelope is the text that was read
abbrev pub EnvelopesAreKept : Type 0
EnvelopesAreKept = (text : List ℕ) (held : CheckpointData) → checkpoint_data_of text ≡ Ok held → envelope_text_of held ≡ text

-- a time of 64 bits
abbrev pub TimeFits : Option ℤ → Type 0
TimeFits None = Unit {0}
TimeFits (Some time) = mag time < 2 ^ 63

-- an entry that is read, of a time that fits, is read again where it is written
abbrev pub EntriesAreReadAgain : Type 0
EntriesAreReadAgain = (d : Data) (entry : TransparencyLogEntry) → TimeFits entry.integrated_time → entry_of d ≡ Ok entry
    → entry_of (entry_data entry) ≡ Ok entry
