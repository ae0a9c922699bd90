-- A group, octet by octet.
use Rattle.std.proofs.Common.{◌≡◌, ℕ, zero, suc, ◌+◌, ◌-◌, ◌*◌, ◌<◌, ◌≤◌, eqb, Bool, true, false, ◌⊎◌, List, [], ◌∷◌, length, Ok, Err, refl, inl, inr, arith}
use Rattle.std.proofs.lemmas.Bool.{eqb-true, lt-ltb, le-ltb}
use Rattle.der_grammar.specs.declared.error.DerError.TheVariants.{Value}
use Rattle.der_grammar.specs.Outcome.{Outcome}
use Rattle.der_core.specs.Oid.{fifth_octet, fourth_octet, third_octet, second_octet, group_at}

-- what a group is, where so many octets of it gave a number
unfoldable pub group_after : ℕ → ℕ → List ℕ → Outcome (ℕ × List ℕ)
group_after zero v bytes = group_at bytes
group_after (suc zero) v bytes = second_octet v bytes
group_after (suc (suc zero)) v bytes = third_octet v bytes
group_after (suc (suc (suc zero))) v bytes = fourth_octet v bytes
group_after (suc (suc (suc (suc zero)))) v bytes = fifth_octet v bytes
group_after (suc (suc (suc (suc (suc n))))) v bytes = Err Value

-- the greatest number that so many octets give
abbrev pub greatest : ℕ → ℕ
greatest zero = 0
greatest (suc n) = 128 * greatest n + 127

pub greatest-bound : (n : ℕ) → n < 5 → greatest (n + 1) ≤ 34359738367
greatest-bound zero p = omega arith
greatest-bound (suc zero) p = omega arith
greatest-bound (suc (suc zero)) p = omega arith
greatest-bound (suc (suc (suc zero))) p = omega arith
greatest-bound (suc (suc (suc (suc zero)))) p = omega arith
greatest-bound (suc (suc (suc (suc (suc n))))) p = absurd (omega arith)

pub group_after-zero : (bytes : List ℕ) → group_at bytes ≡ group_after 0 0 bytes
unfolding group_after
group_after-zero bytes = refl

-- no octet is left
group_after-none : (n v : ℕ) → group_after n v [] ≡ Err Value
unfolding group_after group_at second_octet third_octet fourth_octet fifth_octet
group_after-none zero v = refl
group_after-none (suc zero) v = refl
group_after-none (suc (suc zero)) v = refl
group_after-none (suc (suc (suc zero))) v = refl
group_after-none (suc (suc (suc (suc zero)))) v = refl
group_after-none (suc (suc (suc (suc (suc n))))) v = refl

pub group_after-ends : (n v : ℕ) (bytes : List ℕ) → length bytes ≡ 0 → group_after n v bytes ≡ Err Value
group_after-ends n v [] p = group_after-none n v
group_after-ends n v (b ∷ bytes) p = absurd (omega arith)

-- the last octet
pub group_after-last : (n v b : ℕ) (bytes : List ℕ) → n < 5 → v ≤ greatest n → b < 128 → group_after n v (b ∷ bytes) ≡ Ok (128 * v + b, bytes)
unfolding group_after group_at second_octet third_octet fourth_octet fifth_octet
group_after-last zero v b bytes p q r = let same : 128 * v + b ≡ b = omega arith in rw (lt-ltb b 128 r, same)
group_after-last (suc zero) v b bytes p q r = rw (lt-ltb b 128 r)
group_after-last (suc (suc zero)) v b bytes p q r = rw (lt-ltb b 128 r)
group_after-last (suc (suc (suc zero))) v b bytes p q r = rw (lt-ltb b 128 r)
group_after-last (suc (suc (suc (suc zero)))) v b bytes p q r = rw (lt-ltb b 128 r)
group_after-last (suc (suc (suc (suc (suc n))))) v b bytes p q r = absurd (omega arith)

either_way : (a : Bool) → (a ≡ true) ⊎ (a ≡ false)
either_way true = inl refl
either_way false = inr refl

apart : (b : ℕ) → (b ≡ 128 → ⊥) → eqb b 128 ≡ false
apart b other = elim (either_way (eqb b 128)) [ inl p ↦ absurd (other (eqb-true b 128 p)) | inr p ↦ p ]

-- an octet that isn't the last; the first one isn't 128
pub group_after-more : (n v b : ℕ) (bytes : List ℕ) → n < 5 → v ≤ greatest n → 128 ≤ b → (n ≡ 0 → b ≡ 128 → ⊥)
    → group_after n v (b ∷ bytes) ≡ group_after (n + 1) (128 * v + (b - 128)) bytes
unfolding group_after group_at second_octet third_octet fourth_octet fifth_octet
group_after-more zero v b bytes p q r other = let same : 128 * v + (b - 128) ≡ b - 128 = omega arith in rw (le-ltb b 128 r, apart b (other refl), same)
group_after-more (suc zero) v b bytes p q r other = rw (le-ltb b 128 r)
group_after-more (suc (suc zero)) v b bytes p q r other = rw (le-ltb b 128 r)
group_after-more (suc (suc (suc zero))) v b bytes p q r other = rw (le-ltb b 128 r)
group_after-more (suc (suc (suc (suc zero)))) v b bytes p q r other = rw (le-ltb b 128 r)
group_after-more (suc (suc (suc (suc (suc n))))) v b bytes p q r other = absurd (omega arith)

-- a first octet of 128
pub group_after-led : (v : ℕ) (bytes : List ℕ) → group_after 0 v (128 ∷ bytes) ≡ Err Value
unfolding group_after group_at
group_after-led v bytes = refl

-- five octets were read
pub group_after-five : (n v : ℕ) (bytes : List ℕ) → 5 ≤ n → group_after n v bytes ≡ Err Value
unfolding group_after
group_after-five zero v bytes p = absurd (omega arith)
group_after-five (suc zero) v bytes p = absurd (omega arith)
group_after-five (suc (suc zero)) v bytes p = absurd (omega arith)
group_after-five (suc (suc (suc zero))) v bytes p = absurd (omega arith)
group_after-five (suc (suc (suc (suc zero)))) v bytes p = absurd (omega arith)
group_after-five (suc (suc (suc (suc (suc n))))) v bytes p = refl
