-- The hash of a tree over lists of leaves.
use Rattle.std.proofs.Common.{◌≡◌, ℕ, zero, suc, ◌+◌, ◌<◌, ◌≤◌, List, [], ◌∷◌, length, take, drop, get_or, refl, sym, ◌∙◌, ap, arith, ⊎_elim, length-take, length-drop}
use Rattle.std.proofs.lemmas.Nat.{pow_pos}
use Rattle.std.proofs.lemmas.Bool.{cases_lt, lt-ltb, le-ltb, cond-true, cond-false}
use Rattle.sigstore_merkle.specs.Tree.{split, node_hash}
use Rattle.log_tiles.specs.Whole.{tree_within, tree_hash}
use Rattle.log_tiles.proofs.Splits.{split_is}

pub no_leaf : (leaves : List (List ℕ)) → length leaves ≤ 0 → leaves ≡ []
no_leaf [] h = refl
no_leaf (leaf ∷ others) h = absurd (omega arith)

within_many : (fuel : ℕ) (leaves : List (List ℕ)) → 1 < length leaves
    → tree_within (suc fuel) leaves ≡ node_hash (tree_within fuel (take (split (length leaves)) leaves)) (tree_within fuel (drop (split (length leaves)) leaves))
unfolding tree_within
within_many fuel leaves h = cond-true _ _ _ (lt-ltb 1 (length leaves) h)

within_few : (fuel : ℕ) (leaves : List (List ℕ)) → length leaves ≤ 1 → tree_within (suc fuel) leaves ≡ get_or leaves 0 []
unfolding tree_within
within_few fuel leaves h = cond-false _ _ _ (le-ltb 1 (length leaves) h)

within_none : (fuel : ℕ) → tree_within fuel [] ≡ []
unfolding tree_within
within_none zero = refl
within_none (suc fuel) = refl

pub split_some : (n : ℕ) → 1 < n → 0 < split n
split_some n h = let s = split_is n h in omega (arith, s.power, pow_pos s.height)

pub front_length : (n : ℕ) (leaves : List (List ℕ)) → n ≤ length leaves → length (take n leaves) ≡ n
front_length n leaves h = omega (arith, length-take n leaves)

pub back_length : (n : ℕ) (leaves : List (List ℕ)) → n ≤ length leaves → length (drop n leaves) + n ≡ length leaves
back_length n leaves h = omega (arith, length-drop n leaves)

-- more fuel changes nothing
pub same_within : (f g : ℕ) (leaves : List (List ℕ)) → length leaves ≤ f → length leaves ≤ g → tree_within f leaves ≡ tree_within g leaves
same_within zero g leaves h k = rw (no_leaf leaves h) (within_none 0 ∙ sym (within_none g))
same_within (suc f) zero leaves h k = rw (no_leaf leaves k) (within_none (suc f) ∙ sym (within_none 0))
same_within (suc f) (suc g) leaves h k =
    ⊎_elim
    (λ (many : 1 < length leaves).
    let s = split_is (length leaves) many in
    let some = split_some (length leaves) many in
    let below = s.below in
    let front = front_length (split (length leaves)) leaves (omega arith) in
    let back = back_length (split (length leaves)) leaves (omega arith) in
    let l = same_within f g (take (split (length leaves)) leaves) (omega arith) (omega arith) in
    let r = same_within f g (drop (split (length leaves)) leaves) (omega arith) (omega arith) in
    within_many f leaves many ∙ (ap (λ (x : List ℕ). node_hash x (tree_within f (drop (split (length leaves)) leaves))) l
    ∙ (ap (node_hash (tree_within g (take (split (length leaves)) leaves))) r ∙ sym (within_many g leaves many))))
    (λ few. within_few f leaves few ∙ sym (within_few g leaves few))
    (cases_lt 1 (length leaves))

-- the hash of a tree of two parts
pub tree_of_parts : (leaves left right : List (List ℕ)) (part : ℕ) → part ≡ split (length leaves) → 1 < length leaves
    → left ≡ take part leaves → right ≡ drop part leaves → node_hash (tree_hash left) (tree_hash right) ≡ tree_hash leaves
tree_of_parts [] left right part p h l r = absurd (omega arith)
tree_of_parts (leaf ∷ others) left right part p h l r =
    let s = split_is (length (leaf ∷ others)) h in
    let some = split_some (length (leaf ∷ others)) h in
    let below = s.below in
    let front = front_length (split (length (leaf ∷ others))) (leaf ∷ others) (omega arith) in
    let back = back_length (split (length (leaf ∷ others))) (leaf ∷ others) (omega arith) in
    let a = same_within (length (take (split (length (leaf ∷ others))) (leaf ∷ others))) (length others) (take (split (length (leaf ∷ others))) (leaf ∷ others)) (omega arith) (omega arith) in
    let b = same_within (length (drop (split (length (leaf ∷ others))) (leaf ∷ others))) (length others) (drop (split (length (leaf ∷ others))) (leaf ∷ others)) (omega arith) (omega arith) in
    rw (l, r, p, a, b) (sym (within_many (length others) (leaf ∷ others) h))

-- the hash of a tree of one leaf
pub tree_of_one : (leaves : List (List ℕ)) (d : List ℕ) → length leaves ≡ 1 → get_or leaves 0 d ≡ tree_hash leaves
unfolding tree_within
tree_of_one [] d h = absurd (omega arith)
tree_of_one (leaf ∷ []) d h = refl
tree_of_one (leaf ∷ other ∷ others) d h = absurd (omega arith)

-- trees of one leaf and one hash have one leaf
pub one_leaf : (first second : List (List ℕ)) → length first ≡ 1 → length first ≡ length second → tree_hash first ≡ tree_hash second → first ≡ second
unfolding tree_within
one_leaf [] second h k e = absurd (omega arith)
one_leaf (x ∷ []) [] h k e = absurd (omega arith)
one_leaf (x ∷ []) (y ∷ []) h k e = ap (λ (z : List ℕ). z ∷ []) e
one_leaf (x ∷ []) (y ∷ z ∷ zs) h k e = absurd (omega arith)
one_leaf (x ∷ y ∷ ys) second h k e = absurd (omega arith)
