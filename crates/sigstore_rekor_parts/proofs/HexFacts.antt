-- Texts in hexadecimal of another length than 32 bytes'.
use Rattle.std.proofs.Common.{◌≡◌, ◌≢◌, ℕ, ◌/◌, ◌%◌, List, length, nat_eq, true, false, None, Result, Ok, Err, inl, inr, refl, sym, ◌∙◌, arith}
use Rattle.std.specs.List.{list_all}
use Rattle.std.specs.Result.{result_ok}
use Rattle.std.proofs.lemmas.Bool.{cases_eq, eqb-true, false_from_ne_true}
use Rattle.std.proofs.lemmas.List.Sums.{AllPass-from_list_all, list_all-from_AllPass}
use Rattle.hex.specs.Hex.{decode_of, decode_sized, is_hex_digit}
use Rattle.hex.specs.declared.error.FromHexError.{FromHexError}
use Rattle.hex.specs.declared.error.FromHexError.TheVariants.{InvalidStringLength}
use Rattle.hex.proofs.HexLemmas.{decode_of-digits, decode_of-ok, decode_of-err, decode_sized-odd, decode_sized-twice}
use Rattle.sigstore_types_parts.specs.Encoded.{hex_of}
use Rattle.sigstore_types_parts.specs.declared.error.TypesError.TheVariants.{Hex, Length}

-- no text is refused by `decode` for its length alone, if that is even
not_length : (s : List ℕ) → decode_of s ≡ Err InvalidStringLength → {C : Type 0} → C
not_length s h =
    elim (decode_of-err s InvalidStringLength h) [ inl odd ↦ cc odd.1 | inr digit ↦ cc digit.1 ]

-- a text that isn't decoded for its length
pub other_length : (s : List ℕ) (n : ℕ) → decode_sized s n ≡ Err InvalidStringLength → (length s % 2 ≡ 0) × (length s / 2 ≢ n)
other_length s n h = (
  elim (cases_eq (length s % 2) 1) [
    | inl odd ↦ cc (sym h ∙ decode_sized-odd s n odd)
    | inr even ↦ omega arith
  ],
  λ same.
      elim (cases_eq (length s % 2) 1) [
        | inl odd ↦ cc (sym h ∙ decode_sized-odd s n odd)
        | inr even ↦ not_length s (sym (decode_sized-twice s n (omega arith)) ∙ h)
      ],
)

nat_differs : (m n : ℕ) → m ≢ n → nat_eq m n ≡ false
nat_differs m n h = false_from_ne_true _ (λ t. h (eqb-true m n t))

pub long : (s : List ℕ) → decode_sized s 32 ≡ Err InvalidStringLength → list_all is_hex_digit s ≡ true → Err (Length 32 (length s / 2)) ≡ hex_of 32 s
long s h digits =
    let parts = other_length s 32 h in
    let read = decode_of-digits s parts.0 (AllPass-from_list_all is_hex_digit s digits) in
    let size = (decode_of-ok s read.0 read.1).2 in
    let half : length s / 2 ≡ length read.0 = omega (arith, size) in
    let other : length read.0 ≢ 32 = λ e. parts.1 (half ∙ e) in
    rw (read.1, nat_differs _ _ other, half) refl

undecoded : (s : List ℕ) (r : Result (List ℕ) FromHexError) → decode_of s ≡ r → list_all is_hex_digit s ≡ false → result_ok r ≡ None
undecoded s (Err e) h bad = refl
undecoded s (Ok bytes) h bad = cc (sym bad ∙ list_all-from_AllPass is_hex_digit s (decode_of-ok s bytes h).1)

pub bad : (s : List ℕ) → list_all is_hex_digit s ≡ false → Err Hex ≡ hex_of 32 s
bad s other = rw (undecoded s (decode_of s) refl other) refl
