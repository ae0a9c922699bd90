-- The path of a leaf gives the tree's root, and a proof both trees' roots.
use Rattle.std.proofs.Common.{◌≡◌, ℕ, zero, suc, ◌+◌, ◌-◌, ◌<◌, ◌≤◌, Bool, true, false, List, [], ◌∷◌, ◌++◌, length}
use Rattle.std.proofs.Common.{Option, reverse, take, drop, get_or, Some, refl, sym, ◌∙◌, ap, arith, ⊎_elim}
use Rattle.std.specs.Option.{option_map}
use Rattle.std.proofs.Math.Seq.{take-take}
use Rattle.std.proofs.lemmas.Bool.{cases_lt, lt-ltb, le-ltb, cond-true, cond-false, false≢true}
use Rattle.std.proofs.lemmas.List.{reverse-append, get_or-take, get_or-drop, drop-take, take_all}
use Rattle.sigstore_merkle.specs.Tree.{split, node_hash, root_down, root_from}
use Rattle.log_tiles.specs.Consistency.{Roots, with_left, with_right, roots_from}
use Rattle.log_tiles.specs.Whole.{tree_hash}
use Rattle.log_tiles.specs.Proofs.{path_of, subproof_of}
use Rattle.log_tiles.specs.Source.{Leaves}
use Rattle.log_tiles.proofs.Splits.{split_is, same_split}
use Rattle.log_tiles.proofs.TreeHashes.{front_length, back_length, split_some, tree_of_one, tree_of_parts}
use Rattle.log_tiles.proofs.Paths.{path_few, path_left, path_right, subproof_same, subproof_left, subproof_right}
use Rattle.log_tiles.proofs.Given.{given_same, given_left, given_right}

-- ---- paths

down_left : (leaf : List ℕ) (index size : ℕ) (hash : List ℕ) (below : Leaves) → 1 < size → index < split size
    → root_down leaf index size (hash ∷ below)
    ≡ option_map (λ left. node_hash left hash) (root_down leaf index (split size) below)
unfolding root_down
down_left leaf index size hash below h l = cond-true _ _ _ (lt-ltb 1 size h) ∙ cond-true _ _ _ (lt-ltb index (split size) l)

down_right : (leaf : List ℕ) (index size : ℕ) (hash : List ℕ) (below : Leaves) → 1 < size → split size ≤ index
    → root_down leaf index size (hash ∷ below)
    ≡ option_map (λ right. node_hash hash right) (root_down leaf (index - split size) (size - split size) below)
unfolding root_down
down_right leaf index size hash below h l =
    cond-true _ _ _ (lt-ltb 1 size h) ∙ cond-false _ _ _ (le-ltb index (split size) l)

down_end : (leaf : List ℕ) (index size : ℕ) → index ≡ 0 → size ≡ 1 → root_down leaf index size [] ≡ Some leaf
unfolding root_down
down_end leaf index size h l = rw (h, l) refl

-- the root above the left part's
root_left : (leaf hash root : List ℕ) (index size : ℕ) (below path : Leaves) → 1 < size → index < split size
    → below ++ hash ∷ [] ≡ path → root_from leaf index (split size) below ≡ Some root
    → root_from leaf index size path ≡ Some (node_hash root hash)
root_left leaf hash root index size below path h l e given =
    ap (root_down leaf index size) (ap reverse (sym e) ∙ reverse-append below (hash ∷ []))
    ∙ (down_left leaf index size hash (reverse below) h l ∙ ap (option_map (λ left. node_hash left hash)) given)

root_right : (leaf hash root : List ℕ) (index size : ℕ) (below path : Leaves) → 1 < size → split size ≤ index
    → below ++ hash ∷ [] ≡ path → root_from leaf (index - split size) (size - split size) below ≡ Some root
    → root_from leaf index size path ≡ Some (node_hash hash root)
root_right leaf hash root index size below path h l e given =
    ap (root_down leaf index size) (ap reverse (sym e) ∙ reverse-append below (hash ∷ []))
    ∙ (down_right leaf index size hash (reverse below) h l ∙ ap (option_map (λ right. node_hash hash right)) given)

root_here : (leaves : Leaves) (index : ℕ) → length leaves ≤ 1 → index < length leaves
    → root_from (get_or leaves index []) index (length leaves) (path_of index leaves) ≡ Some (tree_hash leaves)
root_here leaves index few inside =
    let none : index ≡ 0 = omega arith in
    let one : length leaves ≡ 1 = omega arith in
    ap (λ (path : Leaves). root_from (get_or leaves index []) index (length leaves) path) (path_few index leaves few)
    ∙ (down_end (get_or leaves index []) index (length leaves) none one
    ∙ ap (λ (x : List ℕ). Some x) (ap (λ (i : ℕ). get_or leaves i []) none ∙ tree_of_one leaves [] one))

pub path_root : (fuel index size : ℕ) (leaves : Leaves) → size ≡ length leaves → size ≤ fuel → index < size
    → root_from (get_or leaves index []) index size (path_of index leaves) ≡ Some (tree_hash leaves)
path_root zero index size leaves e enough inside = absurd (omega arith)
path_root (suc fuel) index size leaves e enough inside =
    rw e
    (⊎_elim
    (λ (many : 1 < length leaves).
    let k = split (length leaves) in
    let some = split_some (length leaves) many in
    let below = (split_is (length leaves) many).below in
    let front = front_length (split (length leaves)) leaves (omega arith) in
    let back = back_length (split (length leaves)) leaves (omega arith) in
    let whole = tree_of_parts leaves (take k leaves) (drop k leaves) k refl many refl refl in
    ⊎_elim
    (λ (left : index < split (length leaves)).
    let leaf = get_or-take k leaves index [] left in
    let deeper = path_root fuel index k (take k leaves) (sym front) (omega arith) left in
    root_left (get_or leaves index []) (tree_hash (drop k leaves)) (tree_hash (take k leaves)) index (length leaves)
    (path_of index (take k leaves)) (path_of index leaves) many left
    (path_left index leaves (take k leaves) (drop k leaves) many left refl refl)
    (rw leaf at deeper)
    ∙ ap (λ (x : List ℕ). Some x) whole)
    (λ (right : split (length leaves) ≤ index).
    let there : k + (index - k) ≡ index = omega arith in
    let leaf = get_or-drop k leaves (index - k) [] ∙ ap (λ (i : ℕ). get_or leaves i []) there in
    let rest : length leaves - k ≡ length (drop k leaves) = omega arith in
    let deeper = path_root fuel (index - k) (length leaves - k) (drop k leaves) rest (omega arith) (omega arith) in
    root_right (get_or leaves index []) (tree_hash (take k leaves)) (tree_hash (drop k leaves)) index (length leaves)
    (path_of (index - k) (drop k leaves)) (path_of index leaves) many right
    (path_right index leaves (take k leaves) (drop k leaves) many right refl refl)
    (rw leaf at deeper)
    ∙ ap (λ (x : List ℕ). Some x) whole)
    (cases_lt index (split (length leaves))))
    (λ few. root_here leaves index few (omega arith))
    (cases_lt 1 (length leaves)))

-- ---- proofs

abbrev Rooted : ℕ → ℕ → Bool → Leaves → List ℕ → Type 0
Rooted first size whole leaves root =
    roots_from first size whole (subproof_of first whole leaves) root ≡ Some (tree_hash (take first leaves), tree_hash leaves)

same_rooted : (first : ℕ) (whole : Bool) (leaves : Leaves) (root : List ℕ) → 0 < first → first ≡ length leaves
    → (whole ≡ true → root ≡ tree_hash (take first leaves)) → Rooted first (length leaves) whole leaves root
same_rooted first true leaves root some same older =
    let all = take_all first leaves (omega arith) in
    ap (λ (proof : Leaves). roots_from first (length leaves) true proof root) (subproof_same first true leaves some same)
    ∙ (given_same first (length leaves) true [] root same
    ∙ (ap (λ (x : List ℕ). Some (x, x)) (older refl)
    ∙ ap (λ (x : Leaves). Some (tree_hash (take first leaves), tree_hash x)) all))
same_rooted first false leaves root some same older =
    let all = take_all first leaves (omega arith) in
    ap (λ (proof : Leaves). roots_from first (length leaves) false proof root) (subproof_same first false leaves some same)
    ∙ (given_same first (length leaves) false (tree_hash leaves ∷ []) root same
    ∙ ap (λ (x : Leaves). Some (tree_hash x, tree_hash leaves)) (sym all))

-- the roots above those of the left part
above_left : (hash older newer a b : List ℕ) (below : Option Roots) → below ≡ Some (older, newer) → older ≡ a → node_hash newer hash ≡ b
    → with_right hash below ≡ Some (a, b)
above_left hash older newer a b below e f g =
    ap (with_right hash) e
    ∙ (ap (λ (x : List ℕ). Some (x, node_hash newer hash)) f ∙ ap (λ (x : List ℕ). Some (a, x)) g)

-- and above those of the right part, where both trees have one left part
above_right : (hash older newer a b : List ℕ) (below : Option Roots) → below ≡ Some (older, newer) → node_hash hash older ≡ a
    → node_hash hash newer ≡ b → with_left hash below ≡ Some (a, b)
above_right hash older newer a b below e f g =
    ap (with_left hash) e
    ∙ (ap (λ (x : List ℕ). Some (x, node_hash hash newer)) f ∙ ap (λ (x : List ℕ). Some (a, x)) g)

left_rooted : (first k : ℕ) (whole : Bool) (leaves : Leaves) (root : List ℕ) → k ≡ split (length leaves) → 0 < first
    → first < length leaves → first ≤ k → Rooted first k whole (take k leaves) root → Rooted first (length leaves) whole leaves root
left_rooted first k whole leaves root e some more left deeper =
    let many : 1 < length leaves = omega arith in
    let last =
    subproof_left first whole leaves (take k leaves) (drop k leaves) some more (omega arith)
    (ap (λ (n : ℕ). take n leaves) e) (ap (λ (n : ℕ). drop n leaves) e) in
    sym (given_right first (length leaves) k whole _ _ _ root e more left (sym last))
    ∙ above_left _ _ _ _ _ _ deeper (ap tree_hash (take-take first k leaves left))
    (tree_of_parts leaves (take k leaves) (drop k leaves) k e many refl refl)

right_rooted : (first k m : ℕ) (whole : Bool) (leaves : Leaves) (root : List ℕ) → k ≡ split (length leaves) → first ≡ k + m → 0 < m
    → first < length leaves → Rooted m (length leaves - k) false (drop k leaves) root → Rooted first (length leaves) whole leaves root
right_rooted first k m whole leaves root e sum some more deeper =
    let many : 1 < length leaves = omega arith in
    let right : k < first = omega arith in
    let positive = split_some (length leaves) many in
    let rest : first - k ≡ m = omega arith in
    let part : m ≡ first - split (length leaves) = omega arith in
    let size = front_length first leaves (omega arith) in
    let front = take-take k first leaves (omega arith) in
    let back = ap (λ (n : ℕ). drop k (take n leaves)) sum ∙ drop-take k m leaves in
    let parts = same_split first (length leaves) k e many (omega arith) right ∙ ap split (sym size) in
    let last =
    ap (λ (n : ℕ). subproof_of n false (drop k leaves) ++ tree_hash (take k leaves) ∷ []) part
    ∙ subproof_right first whole leaves (take k leaves) (drop k leaves) (omega arith) more (omega arith)
    (ap (λ (n : ℕ). take n leaves) e) (ap (λ (n : ℕ). drop n leaves) e) in
    sym (given_left first (length leaves) k whole _ _ _ root e more right (sym last))
    ∙ above_right _ _ _ _ _ _
    (ap (λ (n : ℕ). roots_from n (length leaves - k) false (subproof_of m false (drop k leaves)) root) rest ∙ deeper)
    (tree_of_parts (take first leaves) (take k leaves) (take m (drop k leaves)) k parts (omega arith) (sym front) (sym back))
    (tree_of_parts leaves (take k leaves) (drop k leaves) k e many refl refl)

pub proof_root : (fuel first size : ℕ) (whole : Bool) (leaves : Leaves) (root : List ℕ) → size ≡ length leaves → size ≤ fuel
    → 0 < first → first ≤ size → (whole ≡ true → root ≡ tree_hash (take first leaves)) → Rooted first size whole leaves root
proof_root zero first size whole leaves root e enough some grown older = absurd (omega arith)
proof_root (suc fuel) first size whole leaves root e enough some grown older =
    rw e
    (⊎_elim
    (λ (more : first < length leaves).
    let k = split (length leaves) in
    let many : 1 < length leaves = omega arith in
    let positive = split_some (length leaves) many in
    let below = (split_is (length leaves) many).below in
    let front = front_length (split (length leaves)) leaves (omega arith) in
    let back = back_length (split (length leaves)) leaves (omega arith) in
    ⊎_elim
    (λ (right : split (length leaves) < first).
    let sum : first ≡ k + (first - k) = omega arith in
    let rest : length leaves - k ≡ length (drop k leaves) = omega arith in
    right_rooted first k (first - k) whole leaves root refl sum (omega arith) more
    (proof_root fuel (first - k) (length leaves - k) false (drop k leaves) root rest (omega arith) (omega arith) (omega arith)
    (λ same. absurd (false≢true same))))
    (λ (left : first ≤ split (length leaves)).
    left_rooted first k whole leaves root refl some more left
    (proof_root fuel first k whole (take k leaves) root (sym front) (omega arith) some left
    (λ same. older same ∙ ap tree_hash (sym (take-take first k leaves left)))))
    (cases_lt (split (length leaves)) first))
    (λ (all : length leaves ≤ first). same_rooted first whole leaves root some (omega arith) older)
    (cases_lt first (length leaves)))
