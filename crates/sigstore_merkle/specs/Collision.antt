-- What two inclusions show (RFC 6962, section 2.1.1).
use Rattle.std.specs.Prelude.{◌≡◌, ◌≢◌, ◌⊎◌, ⊤, ℕ, ◌-◌, nat_lt, cond, List, [], ◌∷◌, reverse, length}
use Rattle.std.specs.Prelude.{Option, Some, None, IsSome, MatchOption, bytes_eq}
use Rattle.std.specs.Option.{unwrap_or, option_map}
use Rattle.sha2.specs.Sha256.{sha256}
use Rattle.sigstore_merkle.specs.Tree.{leaf_input, node_input, leaf_hash, split, root_from}
use Rattle.sigstore_merkle.specs.Inclusion.{ShapeFault}
use Rattle.sigstore_merkle.specs.Differing.{pair_of}
use Rattle.sigstore_merkle.specs.declared.collision.Inclusion.{Inclusion}
use Rattle.sigstore_merkle.specs.declared.collision.Collision.{Collision}
use Rattle.sigstore_merkle.specs.declared.collision.Difference.{Difference}
use Rattle.sigstore_merkle.specs.declared.together.Together.{Together}
use Rattle.sigstore_merkle.specs.declared.error.MerkleError.{MerkleError}
use Rattle.sigstore_merkle.specs.declared.error.MerkleError.TheVariants.{IndexOutOfTree, PathLength, RootMismatch, NoMemory}

-- two different byte strings with one SHA-256 value
abbrev pub IsCollision : List ℕ → List ℕ → Type 0
IsCollision x y = (x ≢ y) × (sha256 x ≡ sha256 y)

-- ---- what is hashed on the way from the root to a leaf

-- the hash of the highest of some inputs
abbrev pub digest_of : List (List ℕ) → List ℕ
digest_of [] = []
digest_of (input ∷ below) = sha256 input

-- what is hashed on the way from the root down to a leaf, with the siblings in that order
unfoldable pub inputs_down : List ℕ → ℕ → ℕ → List (List ℕ) → List (List ℕ)
inputs_down body index size [] = leaf_input body ∷ []
inputs_down body index size (sibling ∷ others) =
    cond (nat_lt index (split size))
    (let below = inputs_down body index (split size) others in node_input (digest_of below) sibling ∷ below)
    (let below = inputs_down body (index - split size) (size - split size) others in node_input sibling (digest_of below) ∷ below)

-- the first two members at one place that differ
unfoldable pub first_difference : List (List ℕ) → List (List ℕ) → Option (List ℕ × List ℕ)
first_difference [] ys = None
first_difference (x ∷ xs) [] = None
first_difference (x ∷ xs) (y ∷ ys) = cond (bytes_eq x y) (first_difference xs ys) (Some (x, y))

-- ---- over inclusions

-- what is hashed for an inclusion, from the root down to the leaf
abbrev pub inputs_of : Inclusion → List (List ℕ)
inputs_of i = inputs_down i.body i.index i.size (reverse i.hashes)

-- the root that an inclusion gives
abbrev pub root_of : Inclusion → Option (List ℕ)
root_of i = root_from (leaf_hash i.body) i.index i.size i.hashes

-- its index is in the tree and its path has the length of that place
abbrev pub HasRoot : Inclusion → Type 0
HasRoot i = IsSome (root_of i)

-- going down from the root, the first inputs that differ
abbrev pub collide : Inclusion → Inclusion → Option (List ℕ × List ℕ)
collide a b = first_difference (inputs_of a) (inputs_of b)

-- one index and one size, and different bodies
pub record IsComparable (a b : Inclusion) : Type 0 where
  pub index : a.index ≡ b.index
  pub size : a.size ≡ b.size
  pub bodies : a.body ≢ b.body

-- the pair is the first that differs, and it is a collision
pub record IsShown (a b : Inclusion) (c : Collision) : Type 0 where
  pub comparable : IsComparable a b
  pub roots : root_of a ≡ root_of b
  pub first : collide a b ≡ Some (c.left, c.right)
  pub different : c.left ≢ c.right
  pub one_value : sha256 c.left ≡ sha256 c.right

-- a collision exactly where the two have one index, size and root and different bodies
abbrev pub IsCollisionAnswer : Inclusion → Inclusion → Option Collision → Type 0
IsCollisionAnswer a b None = IsComparable a b → root_of a ≡ root_of b → ⊥
IsCollisionAnswer a b (Some c) = IsShown a b c

-- an inclusion's place or path is wrong
abbrev pub FaultOf : Inclusion → MerkleError → Type 0
FaultOf i e = ShapeFault i.index i.size (length i.hashes) e

-- the first inclusion's fault, or else the second's
abbrev pub CollisionFault : Inclusion → Inclusion → MerkleError → Type 0
CollisionFault a b (IndexOutOfTree i s) = FaultOf a (IndexOutOfTree i s) ⊎ (HasRoot a × FaultOf b (IndexOutOfTree i s))
CollisionFault a b (PathLength e n) = FaultOf a (PathLength e n) ⊎ (HasRoot a × FaultOf b (PathLength e n))
CollisionFault a b (RootMismatch computed) = ⊥
CollisionFault a b NoMemory = ⊤

-- ---- two climbs

-- the inputs of the differing nodes, or else of the leaves
abbrev pub shown_by : List ℕ → List ℕ → Option (List ℕ × List ℕ) → List ℕ × List ℕ
shown_by a b differing = unwrap_or differing (leaf_input a, leaf_input b)

abbrev pub shown_of : Inclusion → Inclusion → Together → List ℕ × List ℕ
shown_of a b t = shown_by a.body b.body (pair_of t.differing)

-- what is hashed there for two bodies
abbrev pub hashed_at : List ℕ → List ℕ → Difference → Collision
hashed_at a b d = record { left = (shown_by a b (pair_of d.nodes)).0; right = (shown_by a b (pair_of d.nodes)).1 }

-- a difference exactly where the two have one index, size and root and different bodies; what is hashed there is a collision
abbrev pub IsDifferenceAnswer : Inclusion → Inclusion → Option Difference → Type 0
IsDifferenceAnswer a b difference = IsCollisionAnswer a b (option_map (hashed_at a.body b.body) difference)

-- both roots, and the first inputs that differ, which are a collision where the roots are one
pub record DifferAtFirst (a b : Inclusion) (t : Together) : Type 0 where
  pub a_root : root_of a ≡ Some t.a
  pub b_root : root_of b ≡ Some t.b
  pub first : collide a b ≡ Some (shown_of a b t)
  pub collides : t.a ≡ t.b → IsCollision (shown_of a b t).0 (shown_of a b t).1

-- ---- the law

-- one index and one size
pub record IsOnePlace (a b : Inclusion) : Type 0 where
  pub index : a.index ≡ b.index
  pub size : a.size ≡ b.size

-- the bodies and the paths are equal, or the first inputs that differ are a collision
abbrev pub OneOrCollision : Inclusion → Inclusion → Type 0
OneOrCollision a b =
    MatchOption (collide a b) ((a.body ≡ b.body) × (a.hashes ≡ b.hashes)) (λ pair. IsCollision pair.0 pair.1)
