-- Paths of tiles and of bundles of entries (C2SP tlog-tiles, "Parameters").
use Rattle.std.specs.Prelude.{◌≡◌, ℕ, zero, suc, ◌/◌, ◌%◌, ◌==◌, ◌^◌, ◌<◌, List, [], ◌++◌, codes, decimal}
use Rattle.std.specs.Prelude.{if◌then◌else◌, Option, Some, None}

-- three decimal digits of a number below 1000
abbrev pub three_digits : ℕ → List ℕ
three_digits n = decimal (n / 100) ++ (decimal (n / 10 % 10) ++ decimal (n % 10))

-- the groups of three digits of a number, at most so many, each behind an x and before a slash
abbrev pub marked : ℕ → ℕ → List ℕ
marked zero n = []
marked (suc groups) n = if n == 0 then [] else marked groups (n / 1000) ++ (codes "x" ++ (three_digits (n % 1000) ++ codes "/"))

-- an index below 2^64 has at most seven groups, of which the last isn't marked
abbrev pub index_path : ℕ → List ℕ
index_path index = marked 7 (index / 1000) ++ three_digits (index % 1000)

-- a partial tile's width
abbrev pub width_path : Option ℕ → List ℕ
width_path None = []
width_path (Some width) = codes ".p/" ++ decimal width

abbrev pub tile_path_of : ℕ → Option ℕ → List ℕ
tile_path_of index width = index_path index ++ width_path width

-- ---- the law

-- a width is a number of one octet
abbrev pub IsWidth : Option ℕ → Type 0
IsWidth None = Unit {0}
IsWidth (Some width) = width < 2 ^ 8

-- different pairs of an index and a width have different paths
abbrev pub PathsAreDistinct : Type 0
PathsAreDistinct =
    (i j : ℕ) (v w : Option ℕ) → i < 2 ^ 64 → j < 2 ^ 64 → IsWidth v → IsWidth w
    → tile_path_of i v ≡ tile_path_of j w → (i ≡ j) × (v ≡ w)
