-- A log's tree in tiles (C2SP tlog-tiles): a tile of level 0 has the hashes of 256 leaves, and each hash of a higher level is
-- that of the tree over 256 hashes of the level below it. The last tile of a level may be partial.
use Rattle.std.specs.Prelude.{ℕ, zero, suc, ◌+◌, ◌*◌, ◌^◌, List, [], ◌∷◌, ◌++◌, take, drop, Option, Some, None, codes, decimal}
use Rattle.sigstore_rekor.specs.TilePath.{tile_path_of}
use Rattle.log_tiles.specs.Whole.{tree_hash}

-- some of its tiles, by level and index
abbrev pub TileSet : Type 1
TileSet = ℕ → ℕ → Type 0

-- over how many leaves a hash of a level stands
abbrev pub run_of : ℕ → ℕ
run_of level = 256 ^ level

-- the hashes of so many runs of leaves, one behind the other
unfoldable pub run_hashes : ℕ → ℕ → List (List ℕ) → List (List ℕ)
run_hashes zero run leaves = []
run_hashes (suc count) run leaves = tree_hash (take run leaves) ∷ run_hashes count run (drop run leaves)

-- so many leaves from a place on
abbrev pub leaves_at : ℕ → ℕ → List (List ℕ) → List (List ℕ)
leaves_at start count leaves = take count (drop start leaves)

-- the hashes of a tile that has so many
abbrev pub tile_hashes : ℕ → ℕ → ℕ → List (List ℕ) → List (List ℕ)
tile_hashes level index count leaves = run_hashes count (run_of level) (drop (index * 256 * run_of level) leaves)

-- how many hashes a tile has: without a width it is full
abbrev pub count_of : Option ℕ → ℕ
count_of None = 256
count_of (Some width) = width

-- how many leaves there have to be for the first hashes of a tile
abbrev pub reach_of : ℕ → ℕ → ℕ → ℕ
reach_of level index count = (index * 256 + count) * run_of level

-- hashes of 32 octets each, as they stand in a tile
unfoldable pub hashes_in : ℕ → List ℕ → List (List ℕ)
hashes_in zero octets = []
hashes_in (suc count) octets = take 32 octets ∷ hashes_in count (drop 32 octets)

-- where the file of a tile is (C2SP tlog-tiles, "Parameters": tile/<L>/<N>[.p/<W>])
abbrev pub file_path_of : List ℕ → ℕ → ℕ → Option ℕ → List ℕ
file_path_of dir level index width = dir ++ (codes "/tile/" ++ (decimal level ++ (codes "/" ++ tile_path_of index width)))
