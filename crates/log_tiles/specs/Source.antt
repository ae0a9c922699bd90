-- What a source of a log's tiles promises.
use Rattle.std.specs.Prelude.{◌≡◌, ℕ, ◌*◌, ◌<◌, ◌≤◌, List, length, Option, Some, None, Result, Ok, Err, ⊤, option_map}
use Rattle.std.specs.Int.NonZero.{non_zero_u8_get}
use Rattle.foundation.specs.Watched.{Watched, Rose, IfTold}
use Rattle.sigstore_rekor.specs.declared.tile.RekorV2Tile.{RekorV2Tile}
use Rattle.log_tiles.specs.declared.source.TileFault.{TileFault}
use Rattle.log_tiles.specs.declared.source.TileFault.TheVariants.{Failed, NoMemory}
use Rattle.log_tiles.specs.Tiles.{count_of, reach_of, hashes_in, tile_hashes}

-- the hashes of a log's leaves
abbrev pub Leaves : Type 0
Leaves = List (List ℕ)

-- an object that tells its leaves
abbrev pub told_leaves : Leaves → ℕ → Watched Leaves
told_leaves leaves faults = record { told = Some leaves; faults = faults }

-- the tile that was asked for, with the hashes of these leaves
pub record IsTile (leaves : Leaves) (level index : ℕ) (width : Option ℕ) (tile : RekorV2Tile) : Type 0 where
  pub same_level : tile.level ≡ level
  pub same_index : tile.index ≡ index
  pub same_width : option_map non_zero_u8_get tile.width ≡ width
  pub whole : length tile.bytes ≡ 32 * count_of width
  pub hashes : hashes_in (count_of width) tile.bytes ≡ tile_hashes level index (count_of width) leaves
  pub held : reach_of level index (count_of width) ≤ length leaves

-- a tile of these leaves, or none where there are too few
abbrev pub IsAnswer : Leaves → ℕ → ℕ → Option ℕ → Result (Option RekorV2Tile) TileFault → Type 0
IsAnswer leaves level index width (Ok (Some tile)) = IsTile leaves level index width tile
IsAnswer leaves level index width (Ok None) = length leaves < reach_of level index (count_of width)
IsAnswer leaves level index width (Err e) = ⊤

-- Failed only where P
abbrev pub FailsOnly : Type 0 → Result (Option RekorV2Tile) TileFault → Type 0
FailsOnly P (Ok given) = ⊤
FailsOnly P (Err Failed) = P
FailsOnly P (Err NoMemory) = ⊤

-- the promise of a call: told leaves stay as they were, and the answer is of them
pub record ReadsTile (old new : Watched Leaves) (level index : ℕ) (width : Option ℕ) (result : Result (Option RekorV2Tile) TileFault)
    : Type 0 where
  pub same : new.told ≡ old.told
  pub later : old.faults ≤ new.faults
  pub failed : FailsOnly (Rose old.faults new.faults) result
  pub answer : IfTold old.told (λ leaves. IsAnswer leaves level index width result)
