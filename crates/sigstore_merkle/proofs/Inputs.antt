-- What an input shows of its parts.
use Rattle.std.proofs.Common.{◌≡◌, ◌≢◌, ℕ, false, cond, List, ◌++◌, length, take, drop, Option, Some, None, refl, sym, ◌∙◌, ap, arith, ⊎_elim}
use Rattle.std.specs.Prelude.{bytes_eq, ◌&&◌}
use Rattle.std.proofs.lemmas.List.{take_at, drop_at, length-append}
use Rattle.std.proofs.lemmas.Bool.{cases_Bool, cond-true, cond-false}
use Rattle.std.proofs.lemmas.Bool.Decides.{same_from_decides, Decides-and, Decides-like, not_from_Decides}
use Rattle.std.proofs.lemmas.Slice.Eq.{bytes_eq-Decides}
use Rattle.std.proofs.lemmas.Option.{some_pair_parts, none-some}
use Rattle.sha2.specs.Sha256.{sha256}
use Rattle.sigstore_merkle.specs.Tree.{leaf_input}
use Rattle.sigstore_merkle.specs.Climb.{input_at, node_at}
use Rattle.sigstore_merkle.specs.Collision.{IsCollision}
use Rattle.sigstore_merkle.specs.declared.side.Side.{Side}
use Rattle.sigstore_merkle.specs.declared.side.Side.TheVariants.{Left, Right}

same_front : (a b p q : List ℕ) → length a ≡ length b → a ++ p ≡ b ++ q → (a ≡ b) × (p ≡ q)
same_front a b p q l e = (
  sym (take_at a p (length a) refl) ∙ (ap (λ (xs : List ℕ). take (length a) xs) e ∙ take_at b q (length a) (sym l)),
  sym (drop_at a p (length a) refl) ∙ (ap (λ (xs : List ℕ). drop (length a) xs) e ∙ drop_at b q (length a) (sym l)),
)

same_back : (a b p q : List ℕ) → length a ≡ length b → p ++ a ≡ q ++ b → (a ≡ b) × (p ≡ q)
same_back a b p q l e =
    let whole : length (p ++ a) ≡ length (q ++ b) = ap length e in
    let fronts : length p ≡ length q = omega (arith, length-append p a, length-append q b) in
    let parts = same_front p q a b fronts e in
    (parts.1, parts.0)

-- equal inputs have equal parts, where the hashes have one length
pub input_parts : (side : Side) (a p b q : List ℕ) → length a ≡ length b → input_at side a p ≡ input_at side b q → (a ≡ b) × (p ≡ q)
input_parts Left a p b q l e = same_back a b p q l (ap (λ (xs : List ℕ). drop 1 xs) e)
input_parts Right a p b q l e = same_front a b p q l (ap (λ (xs : List ℕ). drop 1 xs) e)

input_from : (side : Side) (a p b q : List ℕ) → (a ≡ b) × (p ≡ q) → input_at side a p ≡ input_at side b q
input_from side a p b q e = let x = e.0 in let y = e.1 in cc

pub inputs_same : (side : Side) (a p b q : List ℕ) → length a ≡ length b → bytes_eq (input_at side a p) (input_at side b q) ≡ (bytes_eq a b && bytes_eq p q)
inputs_same side a p b q l =
    same_from_decides _ _ (bytes_eq-Decides (input_at side a p) (input_at side b q))
    (Decides-like _ (input_from side a p b q) (input_parts side a p b q l) (Decides-and _ _ (bytes_eq-Decides a b) (bytes_eq-Decides p q)))

pub node_is : (side : Side) (a p : List ℕ) → node_at side a p ≡ sha256 (input_at side a p)
node_is Left a p = refl
node_is Right a p = refl

pub leaves_differ : (a b : List ℕ) → a ≢ b → bytes_eq (leaf_input a) (leaf_input b) ≡ false
leaves_differ a b ne =
    ⊎_elim
    (λ yes. absurd (ne (ap (λ (xs : List ℕ). drop 1 xs) ((bytes_eq-Decides (leaf_input a) (leaf_input b)).0 yes))))
    (λ no. no)
    (cases_Bool (bytes_eq (leaf_input a) (leaf_input b)))

-- ---- two lists of inputs

same_collision : (u v x y : List ℕ) → u ≡ x → v ≡ y → IsCollision u v → IsCollision x y
same_collision u v x y p q c =
    let e : sha256 u ≡ sha256 v = c.1 in
    (λ same. c.0 (p ∙ (same ∙ sym q)), ap sha256 (sym p) ∙ (e ∙ ap sha256 q))

-- the two inputs at a place differ and have one hash, or what differs first is below
pub differ_here : (u v : List ℕ) (below : Option (List ℕ × List ℕ)) (x y : List ℕ) → cond (bytes_eq u v) below (Some (u, v)) ≡ Some (x, y) → sha256 u ≡ sha256 v → (u ≡ v → below ≡ Some (x, y) → IsCollision x y) → IsCollision x y
differ_here u v below x y first same deeper =
    ⊎_elim
    (λ yes. deeper ((bytes_eq-Decides u v).0 yes) (sym (cond-true (bytes_eq u v) below (Some (u, v)) yes) ∙ first))
    (λ no.
    let parts = some_pair_parts u x v y (sym (cond-false (bytes_eq u v) below (Some (u, v)) no) ∙ first) in
    same_collision u v x y parts.0 parts.1 (not_from_Decides (bytes_eq u v) (bytes_eq-Decides u v) no, same))
    (cases_Bool (bytes_eq u v))

-- where nothing differs from here on, the inputs here are equal, and nothing differs below
pub same_here : (u v : List ℕ) (below : Option (List ℕ × List ℕ)) → cond (bytes_eq u v) below (Some (u, v)) ≡ None → (u ≡ v) × (below ≡ None)
same_here u v below e =
    ⊎_elim
    (λ yes. ((bytes_eq-Decides u v).0 yes, sym (cond-true (bytes_eq u v) below (Some (u, v)) yes) ∙ e))
    (λ no. absurd (none-some _ (sym e ∙ cond-false (bytes_eq u v) below (Some (u, v)) no)))
    (cases_Bool (bytes_eq u v))
