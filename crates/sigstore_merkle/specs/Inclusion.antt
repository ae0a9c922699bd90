-- The causes of refusals, in their order (RFC 9162, section 2.1.3.2: index and size; the path's length; the root).
use Rattle.std.specs.Prelude.{◌≡◌, ◌≢◌, ℕ, ◌<◌, ◌≤◌, List, length, Some}
use Rattle.sigstore_merkle.specs.Tree.{root_from, IsPathLength}
use Rattle.sigstore_merkle.specs.declared.error.MerkleError.{MerkleError}
use Rattle.sigstore_merkle.specs.declared.error.MerkleError.TheVariants.{IndexOutOfTree, PathLength, RootMismatch, NoMemory}

-- the index isn't in the tree, or the path hasn't the length of that place
abbrev pub ShapeFault : ℕ → ℕ → ℕ → MerkleError → Type 0
ShapeFault index size members (IndexOutOfTree i s) = (size ≤ index) × (i ≡ index) × (s ≡ size)
ShapeFault index size members (PathLength expected actual) =
    (index < size) × (IsPathLength index size expected) × (actual ≡ members) × (members ≢ expected)
ShapeFault index size members (RootMismatch computed) = ⊥
ShapeFault index size members NoMemory = ⊥

-- why a leaf, a place and a path don't have a root; judging them takes no memory
abbrev pub InclusionFault : List ℕ → ℕ → ℕ → List (List ℕ) → List ℕ → MerkleError → Type 0
InclusionFault leaf index size hashes root (IndexOutOfTree i s) = ShapeFault index size (length hashes) (IndexOutOfTree i s)
InclusionFault leaf index size hashes root (PathLength expected actual) =
    ShapeFault index size (length hashes) (PathLength expected actual)
InclusionFault leaf index size hashes root (RootMismatch computed) =
    (root_from leaf index size hashes ≡ Some computed) × (computed ≢ root)
InclusionFault leaf index size hashes root NoMemory = ⊥
