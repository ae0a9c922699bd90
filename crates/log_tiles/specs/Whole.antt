-- RFC 6962, section 2.1: the hash of a tree over the hashes of its leaves.
use Rattle.std.specs.Prelude.{ℕ, zero, suc, nat_lt, cond, List, [], length, take, drop, get_or}
use Rattle.sigstore_merkle.specs.Tree.{split, node_hash}

-- One leaf's hash is its tree's; a larger tree's is the node over those of its two parts (section 2.1: MTH). As much fuel as
-- there are leaves is enough, and more changes nothing.
unfoldable pub tree_within : ℕ → List (List ℕ) → List ℕ
tree_within zero leaves = []
tree_within (suc fuel) leaves =
    cond (nat_lt 1 (length leaves))
    (node_hash (tree_within fuel (take (split (length leaves)) leaves)) (tree_within fuel (drop (split (length leaves)) leaves)))
    (get_or leaves 0 [])

-- the hash of a tree of one leaf at least
abbrev pub tree_hash : List (List ℕ) → List ℕ
tree_hash leaves = tree_within (length leaves) leaves
