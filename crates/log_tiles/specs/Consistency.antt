-- RFC 6962, section 2.1.2: what a consistency proof gives, a root of the older and one of the newer tree.
use Rattle.std.specs.Prelude.{◌≡◌, ℕ, ◌<◌, ◌≤◌, ◌-◌, ◌==◌, nat_lt, Bool, true, false, cond}
use Rattle.std.specs.Prelude.{List, [], ◌∷◌, reverse, Option, Some, None}
use Rattle.std.specs.Option.{option_map}
use Rattle.sigstore_merkle.specs.Tree.{split, node_hash}

-- the roots of an older and of a newer tree
abbrev pub Roots : Type 0
Roots = List ℕ × List ℕ

-- the older tree stands in the left part of the newer one, whose right part has this hash
abbrev pub with_right : List ℕ → Option Roots → Option Roots
with_right hash below = option_map (λ roots. (roots.0, node_hash roots.1 hash)) below

-- both trees have the same left part, which has this hash
abbrev pub with_left : List ℕ → Option Roots → Option Roots
with_left hash below = option_map (λ roots. (node_hash hash roots.0, node_hash hash roots.1)) below

-- Two trees of one size are one tree. The proof's last hash is its root, except where it is the older tree whole, whose
-- root whoever asks has.
abbrev pub roots_alike : Bool → List (List ℕ) → List ℕ → Option Roots
roots_alike whole [] root = cond whole (Some (root, root)) None
roots_alike whole (hash ∷ []) root = cond whole None (Some (hash, hash))
roots_alike whole (hash ∷ other ∷ others) root = None

-- The roots that the hashes of a proof give, in the order from the roots down (section 2.1.2: SUBPROOF read backwards). Each is
-- the hash of the part in which the other hashes aren't; whole says that the older tree is the one that was asked for.
unfoldable pub roots_down : ℕ → ℕ → Bool → List (List ℕ) → List ℕ → Option Roots
roots_down first second whole [] root = cond (first == second) (roots_alike whole [] root) None
roots_down first second whole (hash ∷ below) root =
    cond (first == second)
    (roots_alike whole (hash ∷ below) root)
    (cond (nat_lt first second)
    (cond (nat_lt (split second) first)
    (with_left hash (roots_down (first - split second) (second - split second) false below root))
    (with_right hash (roots_down first (split second) whole below root)))
    None)

-- the roots that a proof gives, whose last hash is next to the roots; none where it hasn't the length of these sizes
abbrev pub roots_from : ℕ → ℕ → Bool → List (List ℕ) → List ℕ → Option Roots
roots_from first second whole hashes root = roots_down first second whole (reverse hashes) root

-- sizes between which there is a proof: the older tree isn't empty, and not larger than the newer one
pub record AreSizes (first second : ℕ) : Type 0 where
  pub some : 0 < first
  pub grown : first ≤ second

-- with the older tree's root the hashes give both roots
pub record AreConsistent (first : ℕ) (first_root : List ℕ) (second : ℕ) (second_root : List ℕ) (hashes : List (List ℕ)) : Type 0 where
  pub sizes : AreSizes first second
  pub roots : roots_from first second true hashes first_root ≡ Some (first_root, second_root)
