-- RFC 6962, section 2.1: the hashes of leaves and nodes, and the root that a leaf and its path give.
use Rattle.std.specs.Prelude.{◌≡◌, ◌↔◌, ℕ, zero, suc, ◌*◌, ◌-◌, ◌==◌, ◌&&◌, nat_lt, cond}
use Rattle.std.specs.Prelude.{List, [], ◌∷◌, ◌++◌, reverse, length, Option, Some, None, IsSome}
use Rattle.std.specs.Option.{option_map}
use Rattle.sha2.specs.Sha256.{sha256}

-- what is hashed for a leaf (section 2.1: 0x00 || d)
abbrev pub leaf_input : List ℕ → List ℕ
leaf_input body = 0 ∷ body

-- what is hashed for a node (section 2.1: 0x01 || left || right)
abbrev pub node_input : List ℕ → List ℕ → List ℕ
node_input left right = 1 ∷ left ++ right

-- the hash of a leaf
abbrev pub leaf_hash : List ℕ → List ℕ
leaf_hash body = sha256 (leaf_input body)

-- the hash of a node
abbrev pub node_hash : List ℕ → List ℕ → List ℕ
node_hash left right = sha256 (node_input left right)

-- the largest power of two below a number, from 2 on (section 2.1: k, the size of the left part)
unfoldable pub split : ℕ → ℕ
split zero = 1
split (suc n) = cond (nat_lt (2 * split n) (suc n)) (2 * split n) (split n)

-- the root that a leaf's hash gives with the siblings in the order from the root down (section 2.1.1: PATH
-- read backwards; the first sibling is the root of the part in which the leaf isn't)
unfoldable pub root_down : List ℕ → ℕ → ℕ → List (List ℕ) → Option (List ℕ)
root_down leaf index size [] = cond (size == 1 && index == 0) (Some leaf) None
root_down leaf index size (sibling ∷ others) =
    cond (nat_lt 1 size)
    (cond (nat_lt index (split size))
    (option_map (λ left. node_hash left sibling) (root_down leaf index (split size) others))
    (option_map (λ right. node_hash sibling right) (root_down leaf (index - split size) (size - split size) others)))
    None

-- the root that a leaf's hash gives with its path, whose last member is next to the root (section 2.1.1);
-- none where the index isn't in the tree or the path hasn't the length of that place
abbrev pub root_from : List ℕ → ℕ → ℕ → List (List ℕ) → Option (List ℕ)
root_from leaf index size hashes = root_down leaf index size (reverse hashes)

-- exactly the paths of n hashes give a root at that place
abbrev pub IsPathLength : ℕ → ℕ → ℕ → Type 0
IsPathLength index size n =
    (leaf : List ℕ) (hashes : List (List ℕ)) → IsSome (root_from leaf index size hashes) ↔ (length hashes ≡ n)
