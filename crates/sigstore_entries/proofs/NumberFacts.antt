-- Numbers as texts.
use mir.Syntax.{w64}
use mir.Val.{SFits}
use Rattle.std.proofs.Common.{◌≡◌, ◌<◌, ◌^◌, ℕ, zero, suc, ℤ, pos, neg_ℤ, List, [], ◌∷◌, length, Bool, true, false, cond, ◌&&◌, nat_lt, nat_le, Some, None, Result, Ok, Err, refl, ap, arith, rules}
use Rattle.std.specs.List.{list_all}
use Rattle.std.specs.Char.{is_ascii_digit}
use Rattle.std.specs.Result.{OkIff, result_ok}
use Rattle.std.specs.Str.Parse.{IsNumeral, digits_value, without_leading_plus, without_leading_sign, starts_with_minus, ParsesUnsigned, ParsesSigned}
use Rattle.std.proofs.lemmas.Bool.{false_from_ne_true, ltb-true, lt-ltb, leb-true, le-leb}
use Rattle.std.proofs.lemmas.Str.Parse.{IsNumeralModel, numerals_by_value, parse_digits}
use Rattle.foundation.specs.Results.{and_true}
use Rattle.sigstore_types_parts.specs.declared.error.CheckpointRule.TheVariants.{Size}
use Rattle.sigstore_types_parts.specs.declared.error.TypesError.TheVariants.{Checkpoint}
use Rattle.sigstore_entries.specs.Checkpoint.{is_shortest_decimal, decimal_of}
use Rattle.sigstore_entries.specs.Numbers.{are_digits, unsigned_of, signed_of}

abbrev AreDigits : List ℕ → Type 0
AreDigits ds = list_all is_ascii_digit ds ≡ true

pub digits : IsNumeralModel AreDigits (digits_value 10)
digits = numerals_by_value _ (search rules)

shortest_digits : (ds : List ℕ) → is_shortest_decimal ds ≡ true → AreDigits ds × (0 < length ds)
shortest_digits [] h = cc h
shortest_digits (d ∷ ds) h = ((and_true _ _ h).0, omega arith)

-- digits that aren't read
pub decimal_refused : {E : Type 0} (ds : List ℕ) (r : Result ℕ E) (e : E) → ParsesUnsigned 64 10 ds r → r ≡ Err e → is_shortest_decimal ds ≡ true
    → decimal_of ds ≡ Err (Checkpoint Size)
unfolding decimal_of
decimal_refused ds (Ok n) e h q p = cc q
decimal_refused ds (Err f) e h q p =
    let parts = shortest_digits ds p in
    let none = parse_digits digits 64 ds (Err f) h parts.0 in
    let large : nat_lt (digits_value 10 ds) (2 ^ 64) ≡ false = false_from_ne_true _ (λ less. none (parts.1, ltb-true _ _ less)) in
    rw (p, large) refl

-- ---- texts as `parse` reads them

pub both : (a b : Bool) → a ≡ true → b ≡ true → (a && b) ≡ true
both true b h k = k
both false b h k = cc h

-- a reading that is given by a test
given_by : {T E : Type 0} (r : Result T E) (P : Type 0) (v : T) (test : Bool) → OkIff r P v → (test ≡ true → P) → (P → test ≡ true)
    → result_ok r ≡ cond test (Some v) None
given_by (Ok x) P v test h to from = rw (from h.0) (ap Some h.1)
given_by (Err e) P v true h to from = absurd (h (to refl))
given_by (Err e) P v false h to from = refl

numeral_to : (ds : List ℕ) → are_digits ds ≡ true → IsNumeral 10 ds
numeral_to ds h = let parts = and_true _ _ h in (ltb-true _ _ parts.0, digits.to ds parts.1)

pub numeral_from : (ds : List ℕ) → IsNumeral 10 ds → are_digits ds ≡ true
numeral_from ds h = both _ _ (lt-ltb _ _ h.0) (digits.from ds h.1)

pub unsigned_read : {E : Type 0} (text : List ℕ) (r : Result ℕ E) → ParsesUnsigned 64 10 text r → result_ok r ≡ unsigned_of text
unfolding unsigned_of
unsigned_read text r h =
    given_by r _ _ _ h
    (λ t. let parts = and_true _ _ t in (numeral_to (without_leading_plus text) parts.0, ltb-true _ _ parts.1))
    (λ p. both _ _ (numeral_from (without_leading_plus text) p.0) (lt-ltb _ _ p.1))

minus_to : (k : ℕ) → nat_le k (2 ^ 63) ≡ true → SFits w64 (neg_ℤ (pos k))
minus_to zero h = record { sfits = omega arith }
minus_to (suc k) h = record { sfits = omega (arith, leb-true _ _ h) }

minus_from : (k : ℕ) → SFits w64 (neg_ℤ (pos k)) → nat_le k (2 ^ 63) ≡ true
minus_from zero h = refl
minus_from (suc k) h = le-leb _ _ (omega (arith, h.sfits))

fits_to : (minus : Bool) (k : ℕ) → cond minus (nat_le k (2 ^ 63)) (nat_lt k (2 ^ 63)) ≡ true → SFits w64 (cond minus (neg_ℤ (pos k)) (pos k))
fits_to true k h = minus_to k h
fits_to false k h = record { sfits = ltb-true _ _ h }

fits_from : (minus : Bool) (k : ℕ) → SFits w64 (cond minus (neg_ℤ (pos k)) (pos k)) → cond minus (nat_le k (2 ^ 63)) (nat_lt k (2 ^ 63)) ≡ true
fits_from true k h = minus_from k h
fits_from false k h = lt-ltb _ _ h.sfits

pub signed_read : {E : Type 0} (text : List ℕ) (r : Result ℤ E) → ParsesSigned w64 10 text r → result_ok r ≡ signed_of text
unfolding signed_of
signed_read text r h =
    let ds = without_leading_sign text in
    given_by r _ _ _ h
    (λ t. let parts = and_true _ _ t in (numeral_to ds parts.0, fits_to (starts_with_minus text) (digits_value 10 ds) parts.1))
    (λ p. both _ _ (numeral_from ds p.0) (fits_from (starts_with_minus text) (digits_value 10 ds) p.1))
