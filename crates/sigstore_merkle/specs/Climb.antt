-- The climb from a leaf to the root, level by level (RFC 9162, section 2.1.3.2).
use Rattle.std.specs.Prelude.{ℕ, ◌%◌, ◌==◌, nat_lt, cond, List, Option, Some, None}
use Rattle.sigstore_merkle.specs.Tree.{node_hash, node_input}
use Rattle.sigstore_merkle.specs.declared.side.Side.{Side}
use Rattle.sigstore_merkle.specs.declared.side.Side.TheVariants.{Left, Right}

-- the side of the sibling of a node of a level, where it has one, by the node's index and the level's last index
-- (section 2.1.3.2: fn and sn)
abbrev pub side_at : ℕ → ℕ → Option Side
side_at index last = cond (index % 2 == 1) (Some Left) (cond (nat_lt index last) (Some Right) None)

-- what is hashed for the node above a hash and its sibling
abbrev pub input_at : Side → List ℕ → List ℕ → List ℕ
input_at Left computed sibling = node_input sibling computed
input_at Right computed sibling = node_input computed sibling

-- the hash of the node above a hash and its sibling
abbrev pub node_at : Side → List ℕ → List ℕ → List ℕ
node_at Left computed sibling = node_hash sibling computed
node_at Right computed sibling = node_hash computed sibling
