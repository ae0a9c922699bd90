-- The whole tree, from the tree of one leaf or from those of two parts.
use Rattle.std.proofs.Common.{◌≡◌, ◌<◌, ◌≤◌, ◌*◌, ◌+◌, ◌^◌, ℕ, List, [], ◌∷◌, ◌++◌, map, length, take, drop, get_or, ◌-◌, ◌∙◌, Ok, Err, IfOk, sym, arith, refl, length-take, length-drop}
use Rattle.std.specs.Prelude.{Result}
use Rattle.std.proofs.lemmas.List.{take-append-drop}
use Rattle.foundation.specs.declared.no_memory.NoMemory.{NoMemory}
use Rattle.sigstore_merkle.specs.Tree.{node_hash}
use Rattle.sigstore_merkle.specs.Whole.{Path, IsSplit, IsTree, lone, joined, with_sibling}
use Rattle.sigstore_merkle.specs.declared.tree.Tree.{Tree}

-- the only item of a list
pub only_item : {A : Type 0} (xs : List A) (x : A) → 1 ≤ length xs → length xs < 2 → x ≡ get_or xs 0 x → xs ≡ x ∷ []
only_item [] x h k e = absurd (omega (arith, h))
only_item (y ∷ []) x h k e = rw e refl
only_item (y ∷ z ∷ zs) x h k e = absurd (omega (arith, k))

pub tree_of_one : (leaves : List (List ℕ)) (leaf : List ℕ) (result : Result Tree NoMemory) → leaves ≡ leaf ∷ []
    → IfOk result (λ tree. tree.root ≡ leaf) → IfOk result (λ tree. tree.paths ≡ [] ∷ [])
    → IfOk result (λ tree. IsTree leaves tree.root tree.paths)
tree_of_one leaves leaf (Ok tree) e r p = rw (e, r, p) (lone leaf)
tree_of_one leaves leaf (Err x) e r p = tt

pub tree_of_two : (leaves front back : List (List ℕ)) (left right : Tree) (result : Result Tree NoMemory) → leaves ≡ front ++ back
    → IsSplit front back → IsTree front left.root left.paths → IsTree back right.root right.paths
    → IfOk result (λ tree. tree.root ≡ node_hash left.root right.root)
    → IfOk result (λ tree. tree.paths ≡ map (with_sibling right.root) left.paths ++ map (with_sibling left.root) right.paths)
    → IfOk result (λ tree. IsTree leaves tree.root tree.paths)
tree_of_two leaves front back left right (Ok tree) e s l r n p =
    rw (e, n, p) (joined front back left.root right.root left.paths right.paths s l r)
tree_of_two leaves front back left right (Err x) e s l r n p = tt

-- the parts at a power of two below the length, where twice as many are no fewer
pub split_there : (n : ℕ) (leaves front back : List (List ℕ)) → front ≡ take n leaves → back ≡ drop n leaves
    → ((height : ℕ) × (n ≡ 2 ^ height)) → n < length leaves → length leaves ≤ 2 * n → IsSplit front back
split_there n leaves front back f b p h k =
    let l : length front ≡ n = rw f (omega (arith, length-take n leaves, h)) in
    let r : length back ≡ length leaves - n = rw b (length-drop n leaves) in
    record {
      height = p.0;
      power = l ∙ p.1;
      some = omega (arith, r, h);
      largest = omega (arith, l, r, k);
    }

pub whole_there : (n : ℕ) (leaves front back : List (List ℕ)) → front ≡ take n leaves → back ≡ drop n leaves → leaves ≡ front ++ back
whole_there n leaves front back f b = rw (f, b) (sym (take-append-drop n leaves))
