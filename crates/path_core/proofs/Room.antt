-- The number of a path length by its octets without leading zeros.
use Rattle.std.proofs.Common.{◌≡◌, ℕ, zero, suc, ◌+◌, ◌*◌, ◌<◌, ◌≤◌, Bool, true, false, cond, eqb, List, [], ◌∷◌, length, refl, sym, ◌∙◌, ap, arith}
use Rattle.std.specs.Prelude.{nat_eq, nat_le, slice_index_or}
use Rattle.std.proofs.lemmas.Bool.{eqb-true, le-leb}
use Rattle.std.proofs.lemmas.Bool.Decides.{nat_tests}
use Rattle.der_core.specs.Unsigned.{without_zeros}
use Rattle.der_numbers.specs.Numbers.{number_from}
use Rattle.path_core.specs.CaConstraint.{is_room}

first_again : (a b : ℕ) (more : List ℕ) (t : Bool) → eqb a 0 ≡ t → number_from 0 (without_zeros (b ∷ more)) ≡ number_from 0 (b ∷ more)
    → number_from 0 (cond t (without_zeros (b ∷ more)) (a ∷ b ∷ more)) ≡ number_from 0 (a ∷ b ∷ more)
first_again a b more true e same =
    let zeroed : 0 ≡ 0 + a = let is = eqb-true a 0 e in omega (arith, is) in
    same ∙ ap (λ (z : ℕ). number_from z (b ∷ more)) zeroed
first_again a b more false e same = refl

zeros_again : (bytes : List ℕ) → number_from 0 (without_zeros bytes) ≡ number_from 0 bytes
zeros_again [] = refl
zeros_again (a ∷ []) = refl
zeros_again (a ∷ b ∷ more) = first_again a b more (eqb a 0) refl (zeros_again (b ∷ more))

-- of two octets or more the first isn't zero
first_there : (a b : ℕ) (more : List ℕ) (t : Bool) → eqb a 0 ≡ t → (x y : ℕ) (rest : List ℕ)
    → (without_zeros (b ∷ more) ≡ x ∷ y ∷ rest → 1 ≤ x) → cond t (without_zeros (b ∷ more)) (a ∷ b ∷ more) ≡ x ∷ y ∷ rest → 1 ≤ x
first_there a b more true e x y rest later h = later h
first_there a b more false e x y rest later h =
    let same : a ≡ x = cc in
    at_least_one a e same
  where
    at_least_one : (a : ℕ) → eqb a 0 ≡ false → a ≡ x → 1 ≤ x
    at_least_one zero e same = absurd cc
    at_least_one (suc a) e same = omega (arith, same)

nonzero : (bytes : List ℕ) (x y : ℕ) (rest : List ℕ) → without_zeros bytes ≡ x ∷ y ∷ rest → 1 ≤ x
nonzero [] x y rest h = absurd cc
nonzero (a ∷ []) x y rest h = absurd cc
nonzero (a ∷ b ∷ more) x y rest h = first_there a b more (eqb a 0) refl x y rest (nonzero (b ∷ more) x y rest) h

grows : (n : ℕ) (bytes : List ℕ) → n ≤ number_from n bytes
grows n [] = omega arith
grows n (b ∷ bytes) = let more = grows (256 * n + b) bytes in omega (arith, more)

same_number : (path shown : List ℕ) → shown ≡ without_zeros path → number_from 0 shown ≡ number_from 0 path
same_number path shown e = ap (number_from 0) e ∙ zeros_again path

none_below : (below : ℕ) → nat_eq below 0 ≡ nat_le below 0
none_below below = grind (arith, nat_tests)

pub room_none : (below : ℕ) (path shown : List ℕ) → shown ≡ without_zeros path → length shown < 1 → nat_eq below 0 ≡ is_room below path
room_none below path [] e short = none_below below ∙ ap (nat_le below) (same_number path [] e)
room_none below path (a ∷ more) e short = absurd (omega arith)

pub room_one : (below : ℕ) (path shown : List ℕ) → shown ≡ without_zeros path → 1 ≤ length shown → length shown < 2 → nat_le below (slice_index_or shown 0 0) ≡ is_room below path
room_one below path [] e long short = absurd (omega arith)
room_one below path (a ∷ []) e long short =
    let here : a ≡ 256 * 0 + a = omega arith in
    ap (nat_le below) here ∙ ap (nat_le below) (same_number path (a ∷ []) e)
room_one below path (a ∷ b ∷ more) e long short = absurd (omega arith)

pub room_more : (below : ℕ) (path shown : List ℕ) → below < 256 → shown ≡ without_zeros path → 2 ≤ length shown → true ≡ is_room below path
room_more below path [] small e long = absurd (omega arith)
room_more below path (a ∷ []) small e long = absurd (omega arith)
room_more below path (a ∷ b ∷ more) small e long =
    let first = nonzero path a b more (sym e) in
    let up = grows (256 * (256 * 0 + a) + b) more in
    let most : below ≤ number_from 0 (a ∷ b ∷ more) = omega (arith, first, up) in
    sym (le-leb below (number_from 0 (a ∷ b ∷ more)) most) ∙ ap (nat_le below) (same_number path (a ∷ b ∷ more) e)
