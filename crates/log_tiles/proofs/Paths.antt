-- Paths and proofs of a tree, by those of its two parts.
use Rattle.std.proofs.Common.{◌≡◌, ℕ, zero, suc, ◌-◌, ◌<◌, ◌≤◌, Bool, false, cond, [], ◌∷◌, ◌++◌, length, take, drop, refl, sym}
use Rattle.std.proofs.Common.{◌∙◌, ap, arith, ⊎_elim}
use Rattle.std.proofs.lemmas.Bool.{cases_lt, lt-ltb, le-ltb, cond-true, cond-false}
use Rattle.std.proofs.lemmas.Bool.Decides.{nat_tests}
use Rattle.sigstore_merkle.specs.Tree.{split}
use Rattle.log_tiles.specs.Whole.{tree_hash}
use Rattle.log_tiles.specs.Proofs.{path_within, path_of, proof_within, subproof_of}
use Rattle.log_tiles.specs.Source.{Leaves}
use Rattle.log_tiles.proofs.Splits.{split_is}
use Rattle.log_tiles.proofs.TreeHashes.{front_length, back_length, split_some}

-- ---- paths

within_few : (fuel index : ℕ) (leaves : Leaves) → length leaves ≤ 1 → path_within fuel index leaves ≡ []
unfolding path_within
within_few zero index leaves h = refl
within_few (suc fuel) index leaves h = cond-false _ _ _ (le-ltb 1 (length leaves) h)

within_left : (fuel index : ℕ) (leaves : Leaves) → 1 < length leaves → index < split (length leaves)
    → path_within (suc fuel) index leaves ≡ path_within fuel index (take (split (length leaves)) leaves) ++ tree_hash
    (drop (split (length leaves)) leaves) ∷ []
unfolding path_within
within_left fuel index leaves h k = cond-true _ _ _ (lt-ltb 1 (length leaves) h) ∙ cond-true _ _ _ (lt-ltb index (split (length leaves)) k)

within_right : (fuel index : ℕ) (leaves : Leaves) → 1 < length leaves → split (length leaves) ≤ index
    → path_within (suc fuel) index leaves ≡ path_within fuel (index - split (length leaves)) (drop (split (length leaves)) leaves) ++
    tree_hash (take (split (length leaves)) leaves) ∷ []
unfolding path_within
within_right fuel index leaves h k =
    cond-true _ _ _ (lt-ltb 1 (length leaves) h) ∙ cond-false _ _ _ (le-ltb index (split (length leaves)) k)

-- more fuel changes nothing
same_path : (f g index : ℕ) (leaves : Leaves) → length leaves ≤ f → length leaves ≤ g
    → path_within f index leaves ≡ path_within g index leaves
same_path zero g index leaves h k = within_few zero index leaves (omega arith) ∙ sym (within_few g index leaves (omega arith))
same_path (suc f) zero index leaves h k = within_few (suc f) index leaves (omega arith) ∙ sym (within_few zero index leaves (omega arith))
same_path (suc f) (suc g) index leaves h k =
    ⊎_elim
    (λ (many : 1 < length leaves).
    let some = split_some (length leaves) many in
    let below = (split_is (length leaves) many).below in
    let front = front_length (split (length leaves)) leaves (omega arith) in
    let back = back_length (split (length leaves)) leaves (omega arith) in
    ⊎_elim
    (λ (left : index < split (length leaves)).
    within_left f index leaves many left
    ∙ (ap (λ (path : Leaves). path ++ tree_hash (drop (split (length leaves)) leaves) ∷ [])
    (same_path f g index (take (split (length leaves)) leaves) (omega arith) (omega arith))
    ∙ sym (within_left g index leaves many left)))
    (λ (right : split (length leaves) ≤ index).
    within_right f index leaves many right
    ∙ (ap (λ (path : Leaves). path ++ tree_hash (take (split (length leaves)) leaves) ∷ [])
    (same_path f g (index - split (length leaves)) (drop (split (length leaves)) leaves) (omega arith) (omega arith))
    ∙ sym (within_right g index leaves many right)))
    (cases_lt index (split (length leaves))))
    (λ few. within_few (suc f) index leaves few ∙ sym (within_few (suc g) index leaves few))
    (cases_lt 1 (length leaves))

pub path_few : (index : ℕ) (leaves : Leaves) → length leaves ≤ 1 → path_of index leaves ≡ []
path_few index leaves h = within_few (length leaves) index leaves h

pub path_left : (index : ℕ) (leaves left right : Leaves) → 1 < length leaves → index < split (length leaves)
    → left ≡ take (split (length leaves)) leaves
    → right ≡ drop (split (length leaves)) leaves → path_of index left ++ tree_hash right ∷ [] ≡ path_of index leaves
path_left index [] left right h k l r = absurd (omega arith)
path_left index (leaf ∷ others) left right h k l r =
    let some = split_some (length (leaf ∷ others)) h in
    let below = (split_is (length (leaf ∷ others)) h).below in
    let front = front_length (split (length (leaf ∷ others))) (leaf ∷ others) (omega arith) in
    rw (l, r)
    (ap (λ (path : Leaves). path ++ tree_hash (drop (split (length (leaf ∷ others))) (leaf ∷ others)) ∷ [])
    (same_path (length (take (split (length (leaf ∷ others))) (leaf ∷ others))) (length others) index
    (take (split (length (leaf ∷ others))) (leaf ∷ others)) (omega arith) (omega arith))
    ∙ sym (within_left (length others) index (leaf ∷ others) h k))

pub path_right : (index : ℕ) (leaves left right : Leaves) → 1 < length leaves → split (length leaves) ≤ index
    → left ≡ take (split (length leaves)) leaves
    → right ≡ drop (split (length leaves)) leaves → path_of (index - split (length leaves)) right ++ tree_hash left ∷ [] ≡ path_of index
    leaves
path_right index [] left right h k l r = absurd (omega arith)
path_right index (leaf ∷ others) left right h k l r =
    let some = split_some (length (leaf ∷ others)) h in
    let below = (split_is (length (leaf ∷ others)) h).below in
    let back = back_length (split (length (leaf ∷ others))) (leaf ∷ others) (omega arith) in
    rw (l, r)
    (ap (λ (path : Leaves). path ++ tree_hash (take (split (length (leaf ∷ others))) (leaf ∷ others)) ∷ [])
    (same_path (length (drop (split (length (leaf ∷ others))) (leaf ∷ others))) (length others) (index - split (length (leaf ∷ others)))
    (drop (split (length (leaf ∷ others))) (leaf ∷ others)) (omega arith) (omega arith))
    ∙ sym (within_right (length others) index (leaf ∷ others) h k))

-- ---- proofs

proof_same : (fuel first : ℕ) (whole : Bool) (leaves : Leaves) → first ≡ length leaves
    → proof_within (suc fuel) first whole leaves ≡ cond whole [] (tree_hash leaves ∷ [])
unfolding proof_within
proof_same fuel first whole leaves e = rw e (grind (arith, nat_tests))

proof_left : (fuel first : ℕ) (whole : Bool) (leaves : Leaves) → first < length leaves → first ≤ split (length leaves)
    → proof_within (suc fuel) first whole leaves ≡ proof_within fuel first whole (take (split (length leaves)) leaves) ++ tree_hash
    (drop (split (length leaves)) leaves) ∷ []
unfolding proof_within
proof_left fuel first whole leaves h k = grind (arith, nat_tests)

proof_right : (fuel first : ℕ) (whole : Bool) (leaves : Leaves) → first < length leaves → split (length leaves) < first
    → proof_within (suc fuel) first whole leaves ≡ proof_within fuel (first - split (length leaves)) false
    (drop (split (length leaves)) leaves) ++ tree_hash (take (split (length leaves)) leaves) ∷ []
unfolding proof_within
proof_right fuel first whole leaves h k = grind (arith, nat_tests)

same_proof : (f g first : ℕ) (whole : Bool) (leaves : Leaves) → 0 < first → first ≤ length leaves → length leaves ≤ f → length leaves ≤ g
    → proof_within f first whole leaves ≡ proof_within g first whole leaves
same_proof zero g first whole leaves p i h k = absurd (omega arith)
same_proof (suc f) zero first whole leaves p i h k = absurd (omega arith)
same_proof (suc f) (suc g) first whole leaves p i h k =
    ⊎_elim
    (λ (more : first < length leaves).
    let many : 1 < length leaves = omega arith in
    let some = split_some (length leaves) many in
    let below = (split_is (length leaves) many).below in
    let front = front_length (split (length leaves)) leaves (omega arith) in
    let back = back_length (split (length leaves)) leaves (omega arith) in
    ⊎_elim
    (λ (right : split (length leaves) < first).
    proof_right f first whole leaves more right
    ∙ (ap (λ (proof : Leaves). proof ++ tree_hash (take (split (length leaves)) leaves) ∷ [])
    (same_proof f g (first - split (length leaves)) false (drop (split (length leaves)) leaves) (omega arith) (omega arith) (omega arith)
    (omega arith))
    ∙ sym (proof_right g first whole leaves more right)))
    (λ (left : first ≤ split (length leaves)).
    proof_left f first whole leaves more left
    ∙ (ap (λ (proof : Leaves). proof ++ tree_hash (drop (split (length leaves)) leaves) ∷ [])
    (same_proof f g first whole (take (split (length leaves)) leaves) p (omega arith) (omega arith) (omega arith))
    ∙ sym (proof_left g first whole leaves more left)))
    (cases_lt (split (length leaves)) first))
    (λ (all : length leaves ≤ first).
    let same : first ≡ length leaves = omega arith in
    proof_same f first whole leaves same ∙ sym (proof_same g first whole leaves same))
    (cases_lt first (length leaves))

pub subproof_same : (first : ℕ) (whole : Bool) (leaves : Leaves) → 0 < first → first ≡ length leaves
    → subproof_of first whole leaves ≡ cond whole [] (tree_hash leaves ∷ [])
subproof_same first whole [] h e = absurd (omega arith)
subproof_same first whole (leaf ∷ others) h e = proof_same (length others) first whole (leaf ∷ others) e

pub subproof_left : (first : ℕ) (whole : Bool) (leaves left right : Leaves) → 0 < first → first < length leaves
    → first ≤ split (length leaves)
    → left ≡ take (split (length leaves)) leaves → right ≡ drop (split (length leaves)) leaves
    → subproof_of first whole left ++ tree_hash right ∷ [] ≡ subproof_of first whole leaves
subproof_left first whole [] left right p h k l r = absurd (omega arith)
subproof_left first whole (leaf ∷ others) left right p h k l r =
    let many : 1 < length (leaf ∷ others) = omega arith in
    let below = (split_is (length (leaf ∷ others)) many).below in
    let front = front_length (split (length (leaf ∷ others))) (leaf ∷ others) (omega arith) in
    rw (l, r)
    (ap (λ (proof : Leaves). proof ++ tree_hash (drop (split (length (leaf ∷ others))) (leaf ∷ others)) ∷ [])
    (same_proof (length (take (split (length (leaf ∷ others))) (leaf ∷ others))) (length others) first whole
    (take (split (length (leaf ∷ others))) (leaf ∷ others)) p (omega arith) (omega arith) (omega arith))
    ∙ sym (proof_left (length others) first whole (leaf ∷ others) h k))

pub subproof_right : (first : ℕ) (whole : Bool) (leaves left right : Leaves) → 0 < first → first < length leaves
    → split (length leaves) < first
    → left ≡ take (split (length leaves)) leaves → right ≡ drop (split (length leaves)) leaves
    → subproof_of (first - split (length leaves)) false right ++ tree_hash left ∷ [] ≡ subproof_of first whole leaves
subproof_right first whole [] left right p h k l r = absurd (omega arith)
subproof_right first whole (leaf ∷ others) left right p h k l r =
    let many : 1 < length (leaf ∷ others) = omega arith in
    let some = split_some (length (leaf ∷ others)) many in
    let below = (split_is (length (leaf ∷ others)) many).below in
    let back = back_length (split (length (leaf ∷ others))) (leaf ∷ others) (omega arith) in
    rw (l, r)
    (ap (λ (proof : Leaves). proof ++ tree_hash (take (split (length (leaf ∷ others))) (leaf ∷ others)) ∷ [])
    (same_proof (length (drop (split (length (leaf ∷ others))) (leaf ∷ others))) (length others) (first - split (length (leaf ∷ others)))
    false (drop (split (length (leaf ∷ others))) (leaf ∷ others)) (omega arith) (omega arith) (omega arith) (omega arith))
    ∙ sym (proof_right (length others) first whole (leaf ∷ others) h k))
