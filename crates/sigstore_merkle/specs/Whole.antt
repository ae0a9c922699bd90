-- The whole tree over the hashes of leaves, with each leaf's path (RFC 6962, sections 2.1 and 2.1.1).
use Rattle.std.specs.Prelude.{◌≡◌, ℕ, ◌<◌, ◌≤◌, ◌^◌, List, [], ◌∷◌, ◌++◌, map, length}
use Rattle.sigstore_merkle.specs.Tree.{node_hash}

-- siblings from the leaf up
abbrev pub Path : Type 0
Path = List (List ℕ)

-- a path one node further
abbrev pub with_sibling : List ℕ → Path → Path
with_sibling sibling path = path ++ sibling ∷ []

-- the left part has as many leaves as the largest power of two below the whole
pub record IsSplit (left right : List (List ℕ)) : Type 0 where
  pub height : ℕ
  pub power : length left ≡ 2 ^ height
  pub some : 0 < length right
  pub largest : length right ≤ length left

-- One leaf's hash is its tree's root, with the empty path. Else the root is the hash of both parts' roots, and a leaf's path
-- is that in its part and then the other part's root.
pub data IsTree : List (List ℕ) → List ℕ → List Path → Type 0 where
  lone : (leaf : List ℕ) → IsTree (leaf ∷ []) leaf ([] ∷ [])
  joined : (left right : List (List ℕ)) (l r : List ℕ) (ls rs : List Path) → IsSplit left right → IsTree left l ls → IsTree right r rs
      → IsTree (left ++ right) (node_hash l r) (map (with_sibling r) ls ++ map (with_sibling l) rs)
