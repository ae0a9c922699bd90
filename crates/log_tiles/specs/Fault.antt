-- The causes of refusals, in their order.
use Rattle.std.specs.Prelude.{◌≡◌, ◌≢◌, ℕ, true, List, Some, None}
use Rattle.log_tiles.specs.Consistency.{AreSizes, roots_from}
use Rattle.log_tiles.specs.declared.error.TileError.{TileError}
use Rattle.log_tiles.specs.declared.error.TileError.TheVariants.{Sizes, PathLength, RootMismatch}
use Rattle.log_tiles.specs.declared.error.WhichTree.{WhichTree}
use Rattle.log_tiles.specs.declared.error.WhichTree.TheVariants.{First, Second}

-- between these sizes there is no proof; the error tells both
pub record SizesFault (first second a b : ℕ) : Type 0 where
  pub none : AreSizes first second → ⊥
  pub first_told : a ≡ first
  pub second_told : b ≡ second

-- the proof gives another root for one of the trees; the older tree is judged first
abbrev pub RootFault : List ℕ → List ℕ → List ℕ × List ℕ → WhichTree → List ℕ → Type 0
RootFault first_root second_root given First computed = (computed ≡ given.0) × (computed ≢ first_root)
RootFault first_root second_root given Second computed = (given.0 ≡ first_root) × (computed ≡ given.1) × (computed ≢ second_root)

-- why a proof doesn't show that one tree grew from another; judging it takes no memory
abbrev pub ConsistencyFault : ℕ → List ℕ → ℕ → List ℕ → List (List ℕ) → TileError → Type 0
ConsistencyFault first first_root second second_root hashes (Sizes a b) = SizesFault first second a b
ConsistencyFault first first_root second second_root hashes PathLength =
    AreSizes first second × (roots_from first second true hashes first_root ≡ None)
ConsistencyFault first first_root second second_root hashes (RootMismatch which computed) =
    AreSizes first second
    × ((given : List ℕ × List ℕ) × (roots_from first second true hashes first_root ≡ Some given)
    × RootFault first_root second_root given which computed)
ConsistencyFault first first_root second second_root hashes e = ⊥
