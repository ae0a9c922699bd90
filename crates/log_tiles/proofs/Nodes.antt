-- What two nodes of one hash show, and what a list shows that another begins with.
use Rattle.std.proofs.Common.{◌≡◌, ℕ, ◌+◌, ◌↔◌, Bool, List, ◌++◌, length, take, drop, Option, Some, None, refl, sym, ◌∙◌, ap, arith}
use Rattle.std.specs.Prelude.{IsTrue, bytes_eq}
use Rattle.std.specs.Cmp.Lexicographic.{pointwise}
use Rattle.std.proofs.lemmas.List.{take_at, drop_at, take-append-drop}
use Rattle.std.proofs.Math.Seq.{take-add}
use Rattle.std.proofs.lemmas.Slice.Eq.{starts_is, bytes_eq-Decides}
use Rattle.sigstore_merkle.specs.Tree.{node_input, node_hash}
use Rattle.sigstore_merkle.specs.Collision.{IsCollision}
use Rattle.sigstore_merkle.specs.declared.together.NodePair.{NodePair}
use Rattle.log_tiles.specs.Compared.{IsPrefix, OrCollision}

same_front : (a b p q : List ℕ) → length a ≡ length b → a ++ p ≡ b ++ q → (a ≡ b) × (p ≡ q)
same_front a b p q l e = (
  sym (take_at a p (length a) refl) ∙ (ap (λ (xs : List ℕ). take (length a) xs) e ∙ take_at b q (length a) (sym l)),
  sym (drop_at a p (length a) refl) ∙ (ap (λ (xs : List ℕ). drop (length a) xs) e ∙ drop_at b q (length a) (sym l)),
)

-- nodes of one hash over other parts are a collision, where their left parts have one length
pub nodes_collide : (a p b q : List ℕ) → length a ≡ length b → ((a ≡ b) × (p ≡ q) → ⊥) → node_hash a p ≡ node_hash b q → IsCollision (node_input a p) (node_input b q)
nodes_collide a p b q l differ same = (λ inputs. differ (same_front a b p q l (ap (λ (xs : List ℕ). drop 1 xs) inputs)), same)

pub prefix_is : (xs p : List (List ℕ)) (r : Bool) → r ≡ pointwise bytes_eq p (take (length p) xs) → IsTrue r ↔ (take (length p) xs ≡ p)
prefix_is xs p r e =
    let is = starts_is bytes_eq-Decides xs p r e in (
      λ yes. ap (λ (ys : List (List ℕ)). take (length p) ys) (is.0 yes) ∙ take_at p (drop (length p) xs) (length p) refl,
      λ front. is.1 (drop (length p) xs) (sym (ap (λ (ys : List (List ℕ)). ys ++ drop (length p) xs) (sym front) ∙ take-append-drop (length p) xs)),
    )

-- two lists begin alike, and the rest of the one is where the rest of the other begins
pub prefix_right : (first second fl fr sl sr : List (List ℕ)) (part : ℕ) → fl ≡ take part first → fr ≡ drop part first → sl ≡ take part second → sr ≡ drop part second
    → fl ≡ sl → length fr + part ≡ length first → IsPrefix fr sr → IsPrefix first second
prefix_right first second fl fr sl sr part a b c d same l rest =
    let whole : length first ≡ part + length fr = omega arith in
    let front : take part second ≡ take part first = sym c ∙ (sym same ∙ a) in
    let back : take (length fr) (drop part second) ≡ drop part first = ap (λ (xs : List (List ℕ)). take (length fr) xs) (sym d) ∙ (rest ∙ b) in
    ap (λ (n : ℕ). take n second) whole
    ∙ (take-add part (length fr) second
    ∙ (ap (λ (xs : List (List ℕ)). xs ++ take (length fr) (drop part second)) front
    ∙ (ap (λ (xs : List (List ℕ)). take part first ++ xs) back ∙ take-append-drop part first)))

pub or_collision : (P Q : Type 0) (pair : Option NodePair) → (P → Q) → OrCollision P pair → OrCollision Q pair
or_collision P Q None f h = f h
or_collision P Q (Some p) f h = h
