-- Octets of numbers from 0 on.
use Rattle.std.proofs.Common.{◌≡◌, ◌⊎◌, ℕ, ◌<◌, Bool, true, false, ltb, eqb, List, [], ◌∷◌, length, refl, arith, inl, inr}
use Rattle.std.proofs.lemmas.Bool.{eqb-true, ltb-true}
use Rattle.der_core.specs.Unsigned.{is_uint, without_zeros, with_sign}

pub short_same : (bytes : List ℕ) → length bytes < 2 → bytes ≡ without_zeros bytes
short_same [] h = refl
short_same (a ∷ []) h = refl
short_same (a ∷ b ∷ more) h = absurd (omega arith)

either_way : (a : Bool) → (a ≡ true) ⊎ (a ≡ false)
either_way true = inl refl
either_way false = inr refl

-- an octet below 128 isn't 255
not_all_ones : (a : ℕ) → ltb a 128 ≡ true → eqb a 255 ≡ false
not_all_ones a e = elim (either_way (eqb a 255)) [ inl p ↦ absurd (let same : a ≡ 255 = eqb-true a 255 p in let low : a < 128 = ltb-true a 128 e in omega arith) | inr p ↦ p ]

pub normal : (bytes : List ℕ) → 0 < length bytes → is_uint (with_sign (without_zeros bytes)) ≡ true
normal [] h = absurd (omega arith)
normal (a ∷ []) h = elim (either_way (ltb a 128)) [
  | inl p ↦ rw p (rw p refl)
  | inr p ↦ rw p (rw p refl)
]
normal (a ∷ b ∷ more) h = elim (either_way (eqb a 0)) [
  | inl p ↦ rw p (normal (b ∷ more) (omega arith))
  | inr p ↦ rw p (elim (either_way (ltb a 128)) [
    | inl q ↦ let n = not_all_ones a q in rw q (rw (p, n, q) refl)
    | inr q ↦ rw q (rw q refl)
  ])
]
