-- Two inclusions at one place with one root are one, or show a collision.
use Rattle.std.proofs.Common.{◌≡◌, ℕ, ◌-◌, ◌^◌, ◌<◌, List, length, reverse, Option, Some, None, refl, sym, ◌∙◌, ap, subst}
use Rattle.std.specs.Prelude.{IsSome}
use Rattle.std.specs.Option.{MatchOption, is_some}
use Rattle.std.proofs.lemmas.List.{length-reverse, reverse-reverse}
use Rattle.sigstore_merkle.specs.Tree.{leaf_hash, root_from}
use Rattle.sigstore_merkle.specs.Collision.{IsCollision, digest_of, inputs_down, first_difference, root_of, HasRoot, IsOnePlace, OneOrCollision}
use Rattle.sigstore_merkle.specs.declared.collision.Inclusion.{Inclusion}
use Rattle.sigstore_merkle.proofs.Sides.{sides}
use Rattle.sigstore_merkle.proofs.Roots.{root_inside, root_length}
use Rattle.sigstore_merkle.proofs.Trails.{trail, found, nothing_differs}
use Rattle.sigstore_merkle.proofs.Joint.{root_trail, inputs_are}

Judged : List ℕ → List ℕ → List (List ℕ) → List (List ℕ) → Option (List ℕ × List ℕ) → Type 0
Judged a b p q o = MatchOption o ((a ≡ b) × (p ≡ q)) (λ pair. IsCollision pair.0 pair.1)

judged : (a b : List ℕ) (p q : List (List ℕ)) (o : Option (List ℕ × List ℕ)) → (o ≡ None → (a ≡ b) × (p ≡ q)) → ((x y : List ℕ) → o ≡ Some (x, y) → IsCollision x y) → Judged a b p q o
unfolding Judged
judged a b p q None f g = f refl
judged a b p q (Some pair) f g = g pair.0 pair.1 refl

one_or_collision : (index size : ℕ) (a b : List ℕ) (p q : List (List ℕ)) → size < 2 ^ 64 → IsSome (root_from (leaf_hash a) index size p) → root_from (leaf_hash a) index size p ≡ root_from (leaf_hash b) index size q → Judged a b p q (first_difference (inputs_down a index size (reverse p)) (inputs_down b index size (reverse q)))
one_or_collision index size a b p q fits some same =
    let inside = root_inside (leaf_hash a) index size p some in
    let shape_p = root_length (leaf_hash a) index size p fits some in
    let shape_q = root_length (leaf_hash b) index size q fits (sym (ap is_some same) ∙ some) in
    let ds = reverse (sides 64 index (size - 1)) in
    let lp : length (reverse p) ≡ length (reverse (sides 64 index (size - 1))) = length-reverse p ∙ (shape_p ∙ sym (length-reverse _)) in
    let lq : length (reverse q) ≡ length (reverse (sides 64 index (size - 1))) = length-reverse q ∙ (shape_q ∙ sym (length-reverse _)) in
    let roots : Some (digest_of (trail a ds (reverse p))) ≡ Some (digest_of (trail b ds (reverse q))) = sym (root_trail index size a p inside fits shape_p) ∙ (same ∙ root_trail index size b q inside fits shape_q) in
    let digests : digest_of (trail a ds (reverse p)) ≡ digest_of (trail b ds (reverse q)) = cc in
    rw (inputs_are index size a p inside fits shape_p, inputs_are index size b q inside fits shape_q)
    (judged a b p q _
    (λ none.
    let parts = nothing_differs ds (reverse p) (reverse q) a b lp lq none in
    (parts.0, sym (reverse-reverse p) ∙ (ap reverse parts.1 ∙ reverse-reverse q)))
    (λ x y first. found ds (reverse p) (reverse q) a b lp lq x y first digests))

pub one_root : (a b : Inclusion) → a.size < 2 ^ 64 → IsOnePlace a b → HasRoot a → root_of a ≡ root_of b → OneOrCollision a b
unfolding Judged
one_root a b fits place some same =
    let index = place.index in
    let size = place.size in
    let like : root_from (leaf_hash a.body) a.index a.size a.hashes ≡ root_from (leaf_hash b.body) a.index a.size b.hashes = rw (index, size) (rw (index, size) at same) in
    let whole = one_or_collision a.index a.size a.body b.body a.hashes b.hashes fits some like in
    subst (λ (i : ℕ). Judged a.body b.body a.hashes b.hashes (first_difference (inputs_down a.body a.index a.size (reverse a.hashes)) (inputs_down b.body i b.size (reverse b.hashes)))) index
    (subst (λ (n : ℕ). Judged a.body b.body a.hashes b.hashes (first_difference (inputs_down a.body a.index a.size (reverse a.hashes)) (inputs_down b.body a.index n (reverse b.hashes)))) size whole)
