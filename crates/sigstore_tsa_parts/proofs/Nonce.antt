-- The contents of a number are an INTEGER's.
use Rattle.std.proofs.Common.{◌≡◌, ◌⊎◌, ℕ, suc, zero, ◌/◌, ◌%◌, List, [], ◌∷◌, Bool, true, false, cond, eqb, ltb, refl, inl, inr, arith, ltb-true, ne_eqb}
use Rattle.der_core.specs.Strings.{is_int}
use Rattle.der_core.specs.Unsigned.{without_zeros, with_sign}
use Rattle.der_numbers.specs.Numbers.{octets_before, contents_of}

-- octets of which the first is no zero, or the only one
abbrev IsShort : ℕ → List ℕ → Type 0
IsShort a more = (eqb a 0 ≡ false) ⊎ (more ≡ [])

signed : (a : ℕ) (more : List ℕ) (s : Bool) → ltb a 128 ≡ s → IsShort a more → is_int (cond s (a ∷ more) (0 ∷ a ∷ more)) ≡ true
signed a more false sign short = rw sign refl
signed a [] true sign short = refl
signed a (b ∷ more) true sign (inl no_zero) =
    let below = ltb-true a 128 sign in
    let no_ones : eqb a 255 ≡ false = ne_eqb a 255 (λ same. omega (arith, below, same)) in
    rw (no_zero, no_ones) refl
signed a (b ∷ more) true sign (inr none) = absurd cc

zero_or : (a b : ℕ) (more : List ℕ) (z : Bool) → eqb a 0 ≡ z → is_int (with_sign (without_zeros (b ∷ more))) ≡ true
    → is_int (with_sign (cond z (without_zeros (b ∷ more)) (a ∷ b ∷ more))) ≡ true
zero_or a b more true zero_is later = later
zero_or a b more false zero_is later = signed a (b ∷ more) (ltb a 128) refl (inl zero_is)

zeros : (a : ℕ) (more : List ℕ) → is_int (with_sign (without_zeros (a ∷ more))) ≡ true
zeros a [] = signed a [] (ltb a 128) refl (inr refl)
zeros a (b ∷ more) = zero_or a b more (eqb a 0) refl (zeros b more)

octets : (k n : ℕ) (others : List ℕ) → is_int (with_sign (without_zeros (octets_before k n others))) ≡ true
octets zero n others = zeros n others
octets (suc k) n others = octets k (n / 256) (n % 256 ∷ others)

pub contents_are_int : (n : ℕ) → is_int (contents_of n) ≡ true
unfolding contents_of
contents_are_int n = octets 7 n []
