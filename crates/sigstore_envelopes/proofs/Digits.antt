-- Texts that spell octets in hexadecimal, two digits an octet.
use Rattle.std.proofs.Common.{◌≡◌, ◌≤◌, ◌<◌, ℕ, List, [], ◌∷◌, length, take, drop, Bool, true, false, ◌&&◌, ◌==◌, ◌/◌, ◌%◌, nat_eq, slice_index, get_or, ◌+◌, add-one, drop-cons, drop_of_length-le, ap, ap₂, sym, ◌∙◌, refl, arith}
use Rattle.std.proofs.lemmas.Bool.{ne_eqb}
use Rattle.std.specs.Str.{str_eq_ignore_ascii_case}
use Rattle.std.specs.Char.{to_ascii_lowercase}
use Rattle.hex.specs.Hex.{lower_digits, encode_with, encode_lower}

regrouped : (a b c : Bool) → (a && (b && c)) ≡ ((a && (b && true)) && c)
regrouped true true c = refl
regrouped true false c = refl
regrouped false b c = refl

never : (b : Bool) → (b && false) ≡ false
never true = refl
never false = refl

-- the digit of that value, in either case
abbrev is_digit : ℕ → ℕ → Bool
is_digit b value = nat_eq (to_ascii_lowercase b) (to_ascii_lowercase (slice_index lower_digits value))

-- the first octet is spelled by two digits, and the others by what stands behind these
spelled_more : (text : List ℕ) (octet : ℕ) (octets : List ℕ) → 2 ≤ length text
    → str_eq_ignore_ascii_case text (encode_lower (octet ∷ octets))
    ≡ (str_eq_ignore_ascii_case (take 2 text) (encode_lower (octet ∷ [])) && str_eq_ignore_ascii_case (drop 2 text) (encode_lower octets))
unfolding encode_with
spelled_more [] octet octets h = absurd (omega (arith, h))
spelled_more (first ∷ []) octet octets h = absurd (omega (arith, h))
spelled_more (first ∷ second ∷ text) octet octets h =
    regrouped (is_digit first (octet / 16)) (is_digit second (octet % 16)) (str_eq_ignore_ascii_case text (encode_lower octets))

-- fewer than two digits spell no octet
spelled_short : (text : List ℕ) (octet : ℕ) (octets : List ℕ) → length text < 2
    → str_eq_ignore_ascii_case text (encode_lower (octet ∷ octets)) ≡ false
unfolding encode_with
spelled_short [] octet octets h = refl
spelled_short (first ∷ []) octet octets h = never (is_digit first (octet / 16))
spelled_short (first ∷ second ∷ text) octet octets h = absurd (omega (arith, h))

-- the empty text alone spells no octets
spelled_end : (text : List ℕ) → str_eq_ignore_ascii_case text (encode_lower []) ≡ (length text == 0)
unfolding encode_with
spelled_end [] = refl
spelled_end (first ∷ text) = sym (ne_eqb _ _ (λ q. absurd (omega (arith, q))))

-- ---- octets from a place on

from_place : (text octets : List ℕ) (k : ℕ) → k < length octets
    → str_eq_ignore_ascii_case text (encode_lower (drop k octets)) ≡ str_eq_ignore_ascii_case text (encode_lower (get_or octets k 0 ∷ drop (k + 1) octets))
from_place text octets k h =
    ap (λ xs. str_eq_ignore_ascii_case text (encode_lower xs)) (drop-cons octets k 0 h ∙ ap (λ n. get_or octets k 0 ∷ drop n octets) (sym (add-one k)))

-- where the next octet is compared
pub next_compared : (rest digits behind octets : List ℕ) (k : ℕ) (same : Bool) → k < length octets → 2 ≤ length rest
    → digits ≡ take 2 rest → behind ≡ drop 2 rest → same ≡ str_eq_ignore_ascii_case digits (encode_lower (get_or octets k 0 ∷ []))
    → str_eq_ignore_ascii_case rest (encode_lower (drop k octets)) ≡ (same && str_eq_ignore_ascii_case behind (encode_lower (drop (k + 1) octets)))
next_compared rest digits behind octets k same h long front back e =
    from_place rest octets k h ∙ spelled_more rest (get_or octets k 0) (drop (k + 1) octets) long
    ∙ ap₂ (λ b xs. b && str_eq_ignore_ascii_case xs (encode_lower (drop (k + 1) octets)))
    (ap (λ xs. str_eq_ignore_ascii_case xs (encode_lower (get_or octets k 0 ∷ []))) (sym front) ∙ sym e) (sym back)

-- where too few digits are left
pub none_left : (rest octets : List ℕ) (k : ℕ) → k < length octets → length rest < 2
    → str_eq_ignore_ascii_case rest (encode_lower (drop k octets)) ≡ false
none_left rest octets k h short = from_place rest octets k h ∙ spelled_short rest (get_or octets k 0) (drop (k + 1) octets) short

-- where all octets were compared
pub all_compared : (rest octets : List ℕ) (k : ℕ) → length octets ≤ k
    → str_eq_ignore_ascii_case rest (encode_lower (drop k octets)) ≡ (length rest == 0)
all_compared rest octets k h = ap (λ xs. str_eq_ignore_ascii_case rest (encode_lower xs)) (drop_of_length-le octets h) ∙ spelled_end rest
