-- Which tiles a path or a proof is taken from: those that have the hashes of the parts of the tree over which its hashes stand.
use Rattle.std.specs.Prelude.{◌≡◌, ℕ, suc, ◌+◌, ◌-◌, ◌*◌, ◌%◌, ◌<◌, ◌≤◌, Bool, true, false, List, Any}
use Rattle.sigstore_merkle.specs.Tree.{split}
use Rattle.log_tiles.specs.Tiles.{TileSet, run_of}
use Rattle.log_tiles.specs.declared.place.Place.{Place}
use Rattle.log_tiles.specs.declared.place.Part.{Part}

-- ---- parts

-- the tree of the first leaves
abbrev pub first_leaves : ℕ → Part
first_leaves size = record { start = 0; count = size }

-- the parts of a tree of more than one leaf (RFC 6962, section 2.1)
pub record AreHalves (part left right : Part) : Type 0 where
  pub many : 1 < part.count
  pub left_start : left.start ≡ part.start
  pub left_count : left.count ≡ split part.count
  pub right_start : right.start ≡ part.start + split part.count
  pub right_count : right.count + split part.count ≡ part.count
  pub some : 0 < split part.count
  pub below : split part.count < part.count

-- The path of the leaf at an index of a tree has the hash of this part of it (section 2.1.1): the half in which the leaf isn't, or one
-- of its path in the other half.
pub data IsPathPart : ℕ → Part → Part → Type 0 where
  path_right : (index : ℕ) (tree left right : Part) → AreHalves tree left right → index < left.count → IsPathPart index tree right
  path_left : (index : ℕ) (tree left right : Part) → AreHalves tree left right → left.count ≤ index → IsPathPart index tree left
  path_in_left : (index : ℕ) (tree left right part : Part) → AreHalves tree left right → index < left.count
      → IsPathPart index left part → IsPathPart index tree part
  path_in_right : (index : ℕ) (tree left right part : Part) → AreHalves tree left right → left.count ≤ index
      → IsPathPart (index - left.count) right part → IsPathPart index tree part

-- The proof that a tree grew from that over its first leaves has the hash of this part of it (section 2.1.2). The older tree's own hash
-- is in it only where that isn't the tree that was asked for; whole says that it is.
pub data IsProofPart : ℕ → Bool → Part → Part → Type 0 where
  proof_older : (first : ℕ) (tree : Part) → first ≡ tree.count → IsProofPart first false tree tree
  proof_right : (first : ℕ) (whole : Bool) (tree left right : Part) → AreHalves tree left right → first ≤ left.count
      → IsProofPart first whole tree right
  proof_left : (first : ℕ) (whole : Bool) (tree left right : Part) → AreHalves tree left right → left.count < first
      → first < tree.count → IsProofPart first whole tree left
  proof_in_left : (first : ℕ) (whole : Bool) (tree left right part : Part) → AreHalves tree left right → first ≤ left.count
      → IsProofPart first whole left part → IsProofPart first whole tree part
  proof_in_right : (first : ℕ) (whole : Bool) (tree left right part : Part) → AreHalves tree left right → left.count < first
      → first < tree.count → IsProofPart (first - left.count) false right part → IsProofPart first whole tree part

-- ---- their tiles

-- the hashes over these leaves and no others, of the highest level that has such ones
pub record IsPlaceOf (start count : ℕ) (place : Place) : Type 0 where
  pub run : place.run ≡ run_of place.level
  pub some : 0 < place.run
  pub starts : start ≡ (place.index * 256 + place.at) * place.run
  pub counts : count ≡ place.count * place.run
  pub at : place.at < 256
  pub highest : start % run_of (suc place.level) ≡ 0 → count % run_of (suc place.level) ≡ 0 → ⊥

-- The hash of a part is taken from the tile at this level and index: that of its own hashes where they stand in one tile, else from those of
-- its halves.
pub data IsTileOf : Part → ℕ → ℕ → Type 0 where
  tile_own : (part : Part) (place : Place) → IsPlaceOf part.start part.count place → place.at + place.count ≤ 256
      → IsTileOf part place.level place.index
  tile_left : (part left right : Part) (place : Place) (level index : ℕ) → IsPlaceOf part.start part.count place
      → 256 < place.at + place.count → AreHalves part left right → IsTileOf left level index → IsTileOf part level index
  tile_right : (part left right : Part) (place : Place) (level index : ℕ) → IsPlaceOf part.start part.count place
      → 256 < place.at + place.count → AreHalves part left right → IsTileOf right level index → IsTileOf part level index

-- the tiles of some parts
abbrev pub OfParts : List Part → TileSet
OfParts parts level index = Any (λ part. IsTileOf part level index) parts

-- the tiles of the path of a leaf in the tree of this size
pub record OfPath (index size level tile : ℕ) : Type 0 where
  pub part : Part
  pub in_path : IsPathPart index (first_leaves size) part
  pub of_part : IsTileOf part level tile

-- the tiles of the proof between two sizes
pub record OfProof (first second level tile : ℕ) : Type 0 where
  pub part : Part
  pub in_proof : IsProofPart first true (first_leaves second) part
  pub of_part : IsTileOf part level tile
