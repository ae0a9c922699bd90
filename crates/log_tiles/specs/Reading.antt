-- What a call knows of the tiles of a tree that it read.
use Rattle.std.specs.Prelude.{◌≡◌, ◌≢◌, ℕ, ◌+◌, ◌*◌, ◌/◌, ◌%◌, ◌<◌, ◌≤◌, List}
use Rattle.std.specs.Prelude.{length, take, drop, map, All, Bool, Option, Result, IfOk, IfErr, ⊤}
use Rattle.foundation.specs.Watched.{Watched, IfTold, Since}
use Rattle.log_tiles.specs.Whole.{tree_hash}
use Rattle.log_tiles.specs.Proofs.{path_of, subproof_of}
use Rattle.log_tiles.specs.Tiles.{TileSet, run_of, leaves_at, tile_hashes}
use Rattle.log_tiles.specs.Source.{Leaves}
use Rattle.log_tiles.specs.Cause.{count_in, TileCause}
use Rattle.log_tiles.specs.Asked.{IsPathPart, IsProofPart}
use Rattle.log_tiles.specs.declared.place.Place.{Place}
use Rattle.log_tiles.specs.declared.place.Part.{Part}
use Rattle.log_tiles.specs.declared.reading.ReadTile.{ReadTile}
use Rattle.log_tiles.specs.declared.error.TileError.{TileError}
use Rattle.log_tiles.specs.declared.error.TileError.TheVariants.{TileLength, NoMemory}

-- the tile's hashes in the tree of the first leaves
pub record IsRead (told : Option Leaves) (size : ℕ) (tile : ReadTile) : Type 0 where
  pub counted : length tile.hashes ≡ count_in size tile.level tile.index
  pub right : IfTold told (λ leaves. tile.hashes ≡ tile_hashes tile.level tile.index (count_in size tile.level tile.index) leaves)

abbrev pub AreRead : Option Leaves → ℕ → List ReadTile → Type 0
AreRead told size tiles = All (IsRead told size) tiles

-- hashes of one tile, from a place on
pub record IsPlace (size : ℕ) (place : Place) : Type 0 where
  pub run : place.run ≡ run_of place.level
  pub some : 0 < place.count
  pub within : place.at + place.count ≤ count_in size place.level place.index

-- hashes of the level above one that has these runs stand over these leaves and no others
pub record StandsHigher (start count level run : ℕ) : Type 0 where
  pub low : level < 7
  pub fits : run ≤ count / 256
  pub starts : start % (run * 256) ≡ 0
  pub counts : count % (run * 256) ≡ 0

-- the hash of the tree over a place's hashes, by those of its tile
abbrev pub place_hash : Place → List (List ℕ) → List ℕ
place_hash place hashes = tree_hash (take place.count (drop place.at hashes))

-- and by the leaves below them
abbrev pub IsPlaceHash : Place → Leaves → List ℕ → Type 0
IsPlaceHash place leaves hash =
    hash ≡ tree_hash (leaves_at ((place.index * 256 + place.at) * place.run) (place.count * place.run) leaves)

-- some leaves of the tree
pub record IsInside (size : ℕ) (part : Part) : Type 0 where
  pub some : 0 < part.count
  pub inside : part.start + part.count ≤ size

-- the hash of the tree over a part of the leaves
abbrev pub part_hash : Leaves → Part → List ℕ
part_hash leaves part = tree_hash (leaves_at part.start part.count leaves)

abbrev pub IsPartHash : Part → Leaves → List ℕ → Type 0
IsPartHash part leaves hash = hash ≡ part_hash leaves part

abbrev pub ArePartHashes : List Part → Leaves → List (List ℕ) → Type 0
ArePartHashes parts leaves hashes = hashes ≡ map (part_hash leaves) parts

-- the octets of a tile have another length than its hashes
abbrev pub LengthRefused : ℕ → ℕ → TileError → Type 0
LengthRefused wanted octets (TileLength expected actual) = (expected ≡ wanted) × (actual ≡ octets) × (octets ≢ wanted)
LengthRefused wanted octets NoMemory = ⊤
LengthRefused wanted octets e = ⊥

-- this tile alone
abbrev pub IsThis : ℕ → ℕ → TileSet
IsThis level index l i = (l ≡ level) × (i ≡ index)

-- what a call promises that reads one tile of the tree of the first leaves
pub record Fetches (size level index : ℕ) (old new : Watched Leaves) (result : Result ReadTile TileError) : Type 0 where
  pub since : Since old new
  pub same_level : IfOk result (λ tile. tile.level ≡ level)
  pub same_index : IfOk result (λ tile. tile.index ≡ index)
  pub read : IfOk result (IsRead new.told size)
  pub refused : IfErr result (TileCause (IsThis level index) size old new)

-- what a call promises that reads these tiles of the tree of the first leaves: over told leaves, as many as the tree has, its answer is so
pub record Computes {V : Type 0} (asked : TileSet) (size : ℕ) (old new : Watched Leaves) (is : Leaves → V → Type 0)
    (result : Result V TileError) : Type 0 where
  pub since : Since old new
  pub given : IfOk result (λ value. IfTold old.told (λ leaves. size ≤ length leaves → is leaves value))
  pub refused : IfErr result (TileCause asked size old new)

-- the parts of a tree over which the hashes of a leaf's path stand
pub record ArePathParts (index : ℕ) (part : Part) (parts : List Part) : Type 0 where
  pub asked : All (IsPathPart index part) parts
  pub inside : (size : ℕ) → part.start + part.count ≤ size → All (IsInside size) parts
  pub path : (leaves : Leaves) → part.start + part.count ≤ length leaves
      → map (part_hash leaves) parts ≡ path_of index (leaves_at part.start part.count leaves)

-- the parts of a tree over which the hashes of a consistency proof stand
pub record AreProofParts (first : ℕ) (whole : Bool) (part : Part) (parts : List Part) : Type 0 where
  pub asked : All (IsProofPart first whole part) parts
  pub inside : (size : ℕ) → part.start + part.count ≤ size → All (IsInside size) parts
  pub proof : (leaves : Leaves) → part.start + part.count ≤ length leaves
      → map (part_hash leaves) parts ≡ subproof_of first whole (leaves_at part.start part.count leaves)
