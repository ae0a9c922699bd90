-- What the leaves of two trees show, between whose sizes there is a consistency proof.
use Rattle.std.specs.Prelude.{◌≡◌, ◌≢◌, ℕ, Bool, List, length, take, Option, Some, MatchOption, ⊤}
use Rattle.sigstore_merkle.specs.Collision.{IsCollision}
use Rattle.sigstore_merkle.specs.Differing.{inputs_of_pair}
use Rattle.sigstore_merkle.specs.declared.together.NodePair.{NodePair}
use Rattle.log_tiles.specs.Consistency.{AreConsistent, roots_from}
use Rattle.log_tiles.specs.Whole.{tree_hash}
use Rattle.log_tiles.specs.Fault.{SizesFault}
use Rattle.log_tiles.specs.declared.compare.Compared.{Compared}
use Rattle.log_tiles.specs.declared.compare.Compared.TheVariants.{Unproved, Prefix, Collision}
use Rattle.log_tiles.specs.declared.error.TileError.{TileError}
use Rattle.log_tiles.specs.declared.error.TileError.TheVariants.{Sizes, NoMemory}

-- the leaves of the older tree are the first ones of the newer one
abbrev pub IsPrefix : List (List ℕ) → List (List ℕ) → Type 0
IsPrefix first second = take (length first) second ≡ first

-- the proof shows that the tree over the one list grew from that over the other
abbrev pub AreProved : List (List ℕ) → List (List ℕ) → List (List ℕ) → Type 0
AreProved first second hashes = AreConsistent (length first) (tree_hash first) (length second) (tree_hash second) hashes

-- the proof gives the hashes of the trees over both lists
abbrev pub GivesBoth : List (List ℕ) → List (List ℕ) → Bool → List (List ℕ) → List ℕ → Type 0
GivesBoth first second whole hashes root =
    roots_from (length first) (length second) whole hashes root ≡ Some (tree_hash first, tree_hash second)

-- the inputs of two nodes are a collision, or without such a pair this holds
abbrev pub OrCollision : Type 0 → Option NodePair → Type 0
OrCollision P pair = MatchOption pair P (λ p. IsCollision (inputs_of_pair p).0 (inputs_of_pair p).1)

-- the answer for two lists of leaves
abbrev pub IsCompared : List (List ℕ) → List (List ℕ) → List (List ℕ) → Compared → Type 0
IsCompared first second hashes Unproved = AreProved first second hashes → ⊥
IsCompared first second hashes Prefix = AreProved first second hashes × IsPrefix first second
IsCompared first second hashes (Collision c) =
    AreProved first second hashes × (take (length first) second ≢ first) × IsCollision c.left c.right

-- why there is no answer
abbrev pub ComparedFault : List (List ℕ) → List (List ℕ) → TileError → Type 0
ComparedFault first second (Sizes a b) = SizesFault (length first) (length second) a b
ComparedFault first second NoMemory = ⊤
ComparedFault first second e = ⊥
