-- Why a checkpoint isn't cosigned by enough witnesses.
use Rattle.std.specs.Prelude.{◌≡◌, ℕ, ◌<◌, List, length, ⊤}
use Rattle.sigstore_keys.specs.Good.{Judge}
use Rattle.sigstore_keys.specs.declared.distinct.Threshold.{Threshold}
use Rattle.sigstore_entries.specs.declared.checkpoint.Checkpoint.{Checkpoint}
use Rattle.log_witnesses.specs.Cosigned.{cosigned_by, max_witnesses}
use Rattle.log_witnesses.specs.IsCosigned.{IsCosigned}
use Rattle.log_witnesses.specs.declared.error.WitnessError.{WitnessError}
use Rattle.log_witnesses.specs.declared.error.WitnessError.TheVariants as refusal
use Rattle.log_witnesses.specs.declared.witness.Witness.{Witness}

-- so many are asked for, so many cosigned, and no more do
pub record AreTooFew (accepts : Judge) (asked : Threshold) (witnesses : List Witness) (checkpoint : Checkpoint) (wanted found : ℕ) : Type 0 where
  pub wanted_is : wanted ≡ asked.value
  pub found_is : found ≡ cosigned_by accepts witnesses checkpoint
  pub fewer : found < wanted
  pub lacking : IsCosigned accepts asked.value witnesses checkpoint → ⊥

-- each refusal, by its name
abbrev pub WitnessCause : Judge → Threshold → List Witness → Checkpoint → WitnessError → Type 0
WitnessCause accepts asked witnesses checkpoint refusal.Form = ⊥
WitnessCause accepts asked witnesses checkpoint refusal.KeyType = ⊥
WitnessCause accepts asked witnesses checkpoint refusal.KeyId = ⊥
WitnessCause accepts asked witnesses checkpoint refusal.TooMany = max_witnesses < length witnesses
WitnessCause accepts asked witnesses checkpoint (refusal.TooFew wanted found) = AreTooFew accepts asked witnesses checkpoint wanted found
WitnessCause accepts asked witnesses checkpoint refusal.NoMemory = ⊤
