-- A field that is written is read.
use Rattle.std.proofs.Common.{◌≡◌, ℕ, zero, suc, ◌==◌, List, [], ◌∷◌, ◌++◌, length, replicate, slice_index, nat_lt, Bool, true, false, not, ◌&&◌, bytes_eq, codes, ok_or, Ok, refl, ap, ◌∙◌, IsAscii}
use Rattle.std.specs.List.{list_all}
use Rattle.std.specs.Result.{result_ok}
use Rattle.std.proofs.lemmas.Bool.{ltb-true}
use Rattle.std.proofs.lemmas.List.Folds.{list_all-append}
use Rattle.std.proofs.lemmas.Str.Ascii.{IsAscii-nil, IsAscii-cons}
use Rattle.base64.specs.Rfc4648.{encode_symbols, padding_len}
use Rattle.base64.specs.Engines.{standard}
use Rattle.base64.specs.GeneralPurpose.{encode_of, IsBytes}
use Rattle.base64.proofs.EngineFacts.{decode_of-encode_of}
use Rattle.command_files.specs.Fields.{field_of}
use Rattle.command_files.specs.declared.usage_fault.UsageFault.TheVariants.{Usage}
use Rattle.question_notes.specs.Lines.{field_text}

-- ASCII, and neither a line feed nor a blank
abbrev pub is_plain : ℕ → Bool
is_plain b = nat_lt b 128 && (not (b == 10) && not (b == 32))

abbrev pub are_plain : List ℕ → Bool
are_plain s = list_all is_plain s

-- the same, and no dash
abbrev is_symbol : ℕ → Bool
is_symbol b = is_plain b && not (b == 45)

abbrev are_symbols : List ℕ → Bool
are_symbols s = list_all is_symbol s

pub left_of : (a b : Bool) → (a && b) ≡ true → a ≡ true
left_of true b h = refl
left_of false b h = cc h

pub right_of : (a b : Bool) → (a && b) ≡ true → b ≡ true
right_of true b h = h
right_of false b h = cc h

pub both_of : (a b : Bool) → a ≡ true → b ≡ true → (a && b) ≡ true
both_of true b h k = k
both_of false b h k = cc h

pub not_true : (b : Bool) → not b ≡ true → b ≡ false
not_true true h = cc h
not_true false h = refl

pub plain_append : (s t : List ℕ) → are_plain s ≡ true → are_plain t ≡ true → are_plain (s ++ t) ≡ true
plain_append s t h k = list_all-append is_plain s t ∙ both_of _ _ h k

pub plain_ascii : (s : List ℕ) → are_plain s ≡ true → IsAscii s
plain_ascii [] h = IsAscii-nil
plain_ascii (b ∷ s) h = IsAscii-cons b s (ltb-true b 128 (left_of _ _ (left_of _ _ h))) (plain_ascii s (right_of (is_plain b) _ h))

-- a text whose bytes are below 128
pub below_ascii : (s : List ℕ) → list_all (λ b. nat_lt b 128) s ≡ true → IsAscii s
below_ascii [] h = IsAscii-nil
below_ascii (b ∷ s) h = IsAscii-cons b s (ltb-true b 128 (left_of _ _ h)) (below_ascii s (right_of (nat_lt b 128) _ h))

symbols_are_plain : (s : List ℕ) → are_symbols s ≡ true → are_plain s ≡ true
symbols_are_plain [] h = refl
symbols_are_plain (b ∷ s) h = both_of _ _ (left_of _ _ (left_of _ _ h)) (symbols_are_plain s (right_of (is_symbol b) _ h))

-- ---- the symbols of base64

abbrev symbols : List ℕ
symbols = standard.encode_table

symbol_at : (t : List ℕ) → are_symbols t ≡ true → (i : ℕ) → is_symbol (slice_index t i) ≡ true
symbol_at [] h i = refl
symbol_at (b ∷ t) h zero = left_of _ _ h
symbol_at (b ∷ t) h (suc i) = symbol_at t (right_of (is_symbol b) _ h) i

encoded_symbols : (t : List ℕ) → are_symbols t ≡ true → (m : List ℕ) → are_symbols (encode_symbols t m) ≡ true
unfolding encode_symbols
encoded_symbols t h [] = refl
encoded_symbols t h (a ∷ []) = both_of _ _ (symbol_at t h _) (both_of _ _ (symbol_at t h _) refl)
encoded_symbols t h (a ∷ b ∷ []) = both_of _ _ (symbol_at t h _) (both_of _ _ (symbol_at t h _) (both_of _ _ (symbol_at t h _) refl))
encoded_symbols t h (a ∷ b ∷ c ∷ m) =
    both_of _ _ (symbol_at t h _) (both_of _ _ (symbol_at t h _) (both_of _ _ (symbol_at t h _) (both_of _ _ (symbol_at t h _) (encoded_symbols t h m))))

padding_symbols : (k : ℕ) → are_symbols (replicate k 61) ≡ true
padding_symbols zero = refl
padding_symbols (suc k) = padding_symbols k

table_symbols : are_symbols symbols ≡ true
table_symbols = refl

encoded : (bytes : List ℕ) → are_symbols (encode_of standard bytes) ≡ true
encoded bytes =
    list_all-append is_symbol (encode_symbols symbols bytes) (replicate (padding_len (length bytes)) 61)
    ∙ both_of _ _ (encoded_symbols symbols table_symbols bytes) (padding_symbols (padding_len (length bytes)))

-- bytes are spelled by some symbols
spelled_some : (b : ℕ) (m : List ℕ) → bytes_eq (encode_of standard (b ∷ m)) [] ≡ false
unfolding encode_symbols
spelled_some b [] = refl
spelled_some b (c ∷ []) = refl
spelled_some b (c ∷ d ∷ m) = refl

no_dash : (s : List ℕ) → are_symbols s ≡ true → bytes_eq s (codes "-") ≡ false
no_dash [] h = refl
no_dash (b ∷ s) h =
    let other : (b == 45) ≡ false = not_true (b == 45) (right_of (is_plain b) _ (left_of _ _ h)) in
    rw other refl

-- ---- fields

pub field_plain : (bytes : List ℕ) → are_plain (field_text bytes) ≡ true
field_plain [] = refl
field_plain (b ∷ bytes) = symbols_are_plain (encode_of standard (b ∷ bytes)) (encoded (b ∷ bytes))

pub field_read : (bytes : List ℕ) → IsBytes bytes → field_of (field_text bytes) ≡ Ok bytes
field_read [] h = refl
field_read (b ∷ bytes) h =
    rw (no_dash _ (encoded (b ∷ bytes)), spelled_some b bytes) (ap (λ r. ok_or (result_ok r) Usage) (decode_of-encode_of standard (b ∷ bytes) refl h))
