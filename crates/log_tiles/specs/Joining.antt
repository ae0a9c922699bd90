-- What the steps of an audit promise.
use Rattle.std.specs.Prelude.{◌≡◌, ℕ, List, Result, Ok, Err, IfOk, IfErr, ⊤}
use Rattle.foundation.specs.Watched.{Watched, Since}
use Rattle.sigstore_keys.specs.Good.{Judge}
use Rattle.sigstore_entries.specs.declared.checkpoint.Checkpoint.{Checkpoint}
use Rattle.log_tiles.specs.Source.{Leaves}
use Rattle.log_tiles.specs.Auditing.{pair_signed, IsGrowth, GrowthCause}
use Rattle.log_tiles.specs.declared.auditing.Growth.{Growth}
use Rattle.log_tiles.specs.declared.error.TileError.{TileError}
use Rattle.log_tiles.specs.declared.error.TileError.TheVariants as refusal

-- what a call promises that joins two checkpoints
pub record Joins (older newer : Checkpoint) (old new : Watched Leaves) (result : Result Growth TileError) : Type 0 where
  pub since : Since old new
  pub joined : IfOk result (IsGrowth older newer old.told)
  pub refused : IfErr result (GrowthCause older newer old new)

-- why two checkpoints aren't: the key or a signature is refused, they are of different logs, or they aren't joined
abbrev pub SignedCause : Judge → List ℕ → Checkpoint → Checkpoint → Watched Leaves → Watched Leaves → TileError → Type 0
SignedCause accepts key older newer old new refusal.Key = pair_signed accepts key older newer ≡ Err refusal.Key
SignedCause accepts key older newer old new (refusal.Signature which) = pair_signed accepts key older newer ≡ Err (refusal.Signature which)
SignedCause accepts key older newer old new refusal.Origin = pair_signed accepts key older newer ≡ Err refusal.Origin
SignedCause accepts key older newer old new (refusal.Checkpoint which) = ⊥
SignedCause accepts key older newer old new refusal.NoMemory = ⊤
SignedCause accepts key older newer old new e = (pair_signed accepts key older newer ≡ Ok tt) × GrowthCause older newer old new e

-- what a call promises that joins two checkpoints where they are of one log and signed under a key
pub record JoinsSigned (accepts : Judge) (key : List ℕ) (older newer : Checkpoint) (old new : Watched Leaves)
    (result : Result Growth TileError) : Type 0 where
  pub since : Since old new
  pub joined : IfOk result (λ found. (pair_signed accepts key older newer ≡ Ok tt) × IsGrowth older newer old.told found)
  pub refused : IfErr result (SignedCause accepts key older newer old new)
