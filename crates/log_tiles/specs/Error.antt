-- The number and the name of each refusal.
use Rattle.std.specs.Prelude.{ℕ, List, codes}
use Rattle.log_tiles.specs.declared.error.TileError.{TileError}
use Rattle.log_tiles.specs.declared.error.TileError.TheVariants.{Sizes, TileAbsent, TileFailed, TileLength}
use Rattle.log_tiles.specs.declared.error.TileError.TheVariants.{Checkpoint, Signature, Key, PathLength, RootMismatch, NoMemory, Origin, IndexOutOfTree}

abbrev pub number_of : TileError → ℕ
number_of (Sizes first second) = 1
number_of (TileAbsent level index) = 2
number_of TileFailed = 3
number_of (TileLength expected actual) = 4
number_of (Checkpoint which) = 5
number_of (Signature which) = 6
number_of Key = 7
number_of PathLength = 8
number_of (RootMismatch which computed) = 9
number_of NoMemory = 10
number_of Origin = 11
number_of (IndexOutOfTree index size) = 12

abbrev pub name_of : TileError → List ℕ
name_of (Sizes first second) = codes "Sizes"
name_of (TileAbsent level index) = codes "TileAbsent"
name_of TileFailed = codes "TileFailed"
name_of (TileLength expected actual) = codes "TileLength"
name_of (Checkpoint which) = codes "Checkpoint"
name_of (Signature which) = codes "Signature"
name_of Key = codes "Key"
name_of PathLength = codes "PathLength"
name_of (RootMismatch which computed) = codes "RootMismatch"
name_of NoMemory = codes "NoMemory"
name_of Origin = codes "Origin"
name_of (IndexOutOfTree index size) = codes "IndexOutOfTree"
