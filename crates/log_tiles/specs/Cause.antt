-- Why a log's tiles give no answer about the tree of its first leaves.
use Rattle.std.specs.Prelude.{◌≡◌, ◌≢◌, ℕ, ◌-◌, ◌*◌, ◌/◌, ◌<◌, ◌≤◌, min, length, Option, ⊤}
use Rattle.foundation.specs.Watched.{Watched, Rose, IfTold}
use Rattle.log_tiles.specs.Tiles.{TileSet, run_of, reach_of}
use Rattle.log_tiles.specs.Source.{Leaves}
use Rattle.log_tiles.specs.declared.error.TileError.{TileError}
use Rattle.log_tiles.specs.declared.error.TileError.TheVariants.{TileAbsent, TileFailed, TileLength, NoMemory}

-- how many hashes a tile has in the tree of the first leaves: only those over leaves of this tree
abbrev pub count_in : ℕ → ℕ → ℕ → ℕ
count_in size level index = min 256 (size / run_of level - index * 256)

-- the source answered that it hasn't a tile that is asked for, all of whose leaves are in the tree: a told source lacks some of them
pub record AbsentFault (asked : TileSet) (size : ℕ) (told : Option Leaves) (level index : ℕ) : Type 0 where
  pub asked_for : asked level index
  pub some : 0 < count_in size level index
  pub inside : reach_of level index (count_in size level index) ≤ size
  pub lacking : IfTold told (λ leaves. length leaves < reach_of level index (count_in size level index))

-- a tile that is asked for has another number of octets than 32 for each of its hashes; no told source answers with one
pub record LengthFault (asked : TileSet) (size : ℕ) (told : Option Leaves) (expected actual : ℕ) : Type 0 where
  pub level : ℕ
  pub index : ℕ
  pub asked_for : asked level index
  pub some : 0 < count_in size level index
  pub wanted : expected ≡ 32 * count_in size level index
  pub other : actual ≢ expected
  pub untold : IfTold told (λ leaves. ⊥)

-- the source hasn't one of these tiles, failed, or answered with one of another length
abbrev pub TileCause : TileSet → ℕ → Watched Leaves → Watched Leaves → TileError → Type 0
TileCause asked size old new (TileAbsent level index) = AbsentFault asked size old.told level index
TileCause asked size old new TileFailed = Rose old.faults new.faults
TileCause asked size old new (TileLength expected actual) = LengthFault asked size old.told expected actual
TileCause asked size old new NoMemory = ⊤
TileCause asked size old new e = ⊥
