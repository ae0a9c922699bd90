-- Texts in hexadecimal and in base64 stand in JSON strings as they are.
use Rattle.std.proofs.Common.{◌≡◌, ℕ, zero, suc, ◌+◌, ◌*◌, ◌/◌, ◌%◌, ◌<◌, ◌==◌, Bool, true, ◌&&◌, List, [], ◌∷◌, ◌++◌, length, slice_index, replicate, refl, ap₂, ◌∙◌, inl, inr, arith}
use Rattle.std.proofs.lemmas.Bool.{and_parts, or_parts, not-true, eqb-false, ltb-false, cases_lt}
use Rattle.std.proofs.lemmas.Grind.{flat_map-append}
use Rattle.base64.specs.Engines.{standard}
use Rattle.base64.specs.GeneralPurpose.{encode_of}
use Rattle.base64.specs.Rfc4648.{encode_symbols, padding_len}
use Rattle.hex.specs.Hex.{encode_with, encode_lower, lower_digits, IsBytes}
use Rattle.json.specs.Print.{escape_byte, escape}
use Rattle.json.specs.Run.{is_stop, is_plain}
use Rattle.json.proofs.Printed.Strings.{escape_byte_plain}

-- nothing of the text is escaped
abbrev pub IsPlain : List ℕ → Type 0
IsPlain xs = escape xs ≡ xs

plain_code : (x : ℕ) → is_plain x ≡ true → escape_byte x ≡ x ∷ []
plain_code x h =
    let none = or_parts _ _ (not-true (is_stop x) h) in
    let tests = or_parts (x == 34) _ none.0 in
    escape_byte_plain x (eqb-false x 34 tests.0) (eqb-false x 92 tests.1) (ltb-false x 32 none.1)

plain_cons : (x : ℕ) (xs : List ℕ) → is_plain x ≡ true → IsPlain xs → IsPlain (x ∷ xs)
plain_cons x xs p q = ap₂ (λ a b. a ++ b) (plain_code x p) q

pub plain_append : (xs ys : List ℕ) → IsPlain xs → IsPlain ys → IsPlain (xs ++ ys)
plain_append xs ys p q = flat_map-append escape_byte xs ys ∙ ap₂ (λ a b. a ++ b) p q

-- the first n places of a table
abbrev are_plain : List ℕ → ℕ → Bool
are_plain t zero = true
are_plain t (suc n) = is_plain (slice_index t n) && are_plain t n

place_of : (t : List ℕ) (n k : ℕ) → are_plain t n ≡ true → k < n → is_plain (slice_index t k) ≡ true
place_of t zero k h lt = absurd (omega arith)
place_of t (suc n) k h lt =
    let parts = and_parts (is_plain (slice_index t n)) (are_plain t n) h in
    elim (cases_lt k n) [
      | inl below ↦ place_of t n k parts.1 below
      | inr top ↦ let e : k ≡ n = omega arith in rw e parts.0
    ]

digit : (k : ℕ) → k < 16 → is_plain (slice_index lower_digits k) ≡ true
digit k lt = place_of lower_digits 16 k refl lt

pub plain_hex : (xs : List ℕ) → IsBytes xs → IsPlain (encode_lower xs)
unfolding encode_with
plain_hex [] h = refl
plain_hex (b ∷ rest) h =
    let fits : b < 256 = h 0 in
    plain_cons _ _ (digit (b / 16) (omega arith)) (plain_cons _ _ (digit (b % 16) (omega arith)) (plain_hex rest (λ k. h (suc k))))

abbrev symbols : List ℕ
symbols = standard.encode_table

symbol : (k : ℕ) → k < 64 → is_plain (slice_index symbols k) ≡ true
symbol k lt = place_of symbols 64 k refl lt

plain_symbols : (xs : List ℕ) → IsBytes xs → IsPlain (encode_symbols symbols xs)
unfolding encode_symbols
plain_symbols [] h = refl
plain_symbols (a ∷ []) h =
    let fits : a < 256 = h 0 in
    plain_cons _ _ (symbol (a / 4) (omega arith)) (plain_cons _ _ (symbol (a % 4 * 16) (omega arith)) refl)
plain_symbols (a ∷ b ∷ []) h =
    let first : a < 256 = h 0 in
    let second : b < 256 = h 1 in
    plain_cons _ _ (symbol (a / 4) (omega arith))
    (plain_cons _ _ (symbol (a % 4 * 16 + b / 16) (omega arith)) (plain_cons _ _ (symbol (b % 16 * 4) (omega arith)) refl))
plain_symbols (a ∷ b ∷ c ∷ rest) h =
    let first : a < 256 = h 0 in
    let second : b < 256 = h 1 in
    let third : c < 256 = h 2 in
    plain_cons _ _ (symbol (a / 4) (omega arith))
    (plain_cons _ _ (symbol (a % 4 * 16 + b / 16) (omega arith))
    (plain_cons _ _ (symbol (b % 16 * 4 + c / 64) (omega arith))
    (plain_cons _ _ (symbol (c % 64) (omega arith)) (plain_symbols rest (λ k. h (suc (suc (suc k))))))))

plain_padding : (n : ℕ) → IsPlain (replicate n 61)
plain_padding zero = refl
plain_padding (suc n) = plain_cons 61 (replicate n 61) refl (plain_padding n)

pub plain_base64 : (xs : List ℕ) → IsBytes xs → IsPlain (encode_of standard xs)
plain_base64 xs h = plain_append (encode_symbols symbols xs) _ (plain_symbols xs h) (plain_padding (padding_len (length xs)))
