-- A value of ASCII texts and numbers of 64 bits is read again from its text.
use Rattle.std.proofs.Common.{◌≡◌, ℕ, ◌^◌, ◌<◌, ◌≤◌, List, [], ◌∷◌, ◌++◌, length, Bool, true, false, ◌&&◌, nat_lt, Some, refl, sym, ap, ◌∙◌, ltb-true, append-nil, IsUtf8}
use Rattle.std.specs.Prelude.{Option, option_and_then}
use Rattle.std.specs.Str.Lossy.{utf8_valid_len}
use Rattle.std.proofs.lemmas.Bool.{and_parts}
use Rattle.std.proofs.lemmas.Fmt.{IsAscii-decimal}
use Rattle.std.proofs.lemmas.Str.{IsUtf8-append, IsUtf8-from_ascii, utf8_valid_len-IsUtf8}
use Rattle.json.specs.Print.{quoted}
use Rattle.json.specs.Json as json
use Rattle.json.specs.Lex.{tokens}
use Rattle.json.specs.Token.{Token}
use Rattle.json.specs.Tree as tree
use Rattle.json.proofs.Printed.Decimals.{IsNumber-decimal}
use Rattle.json.proofs.Printed.Tokens.{tokens-print}
use Rattle.json.proofs.Printed.Trees.{value-json_tokens, ArePrintable-json_tokens}
use Rattle.json.proofs.Printed.Utf8.{are_ascii, IsUtf8-are_ascii, IsUtf8-quoted, IsUtf8-boolean}
use Rattle.serde_json.specs.Data.{Num, unsigned, negative, float, Data, null, boolean, number, string, array, object, Items, no_items, item, Members, no_members, member}
use Rattle.serde_json.specs.Read.{read, max_depth, of_json}
use Rattle.serde_json.specs.Written.{outline, items_outline, members_outline, comma_if, compact_text, items_text, members_text, number_text}
use Rattle.serde_json.specs.Written.{has_float, items_have_float, members_have_float}
use Rattle.serde_json.proofs.Texts.{print-outline}

abbrev pub is_writable_number : Num → Bool
is_writable_number (unsigned n) = nat_lt n (2 ^ 64)
is_writable_number (negative z) = false
is_writable_number (float x) = false

-- its texts are ASCII, and its numbers of 64 bits
abbrev mutual
  pub is_writable : Data → Bool
  is_writable null = true
  is_writable (boolean b) = true
  is_writable (number n) = is_writable_number n
  is_writable (string s) = are_ascii s
  is_writable (array ds) = are_writable ds
  is_writable (object ms) = have_writable ms

  pub are_writable : Items → Bool
  are_writable no_items = true
  are_writable (item d ds) = is_writable d && are_writable ds

  pub have_writable : Members → Bool
  have_writable no_members = true
  have_writable (member k d ms) = are_ascii k && (is_writable d && have_writable ms)

-- ---- its text is UTF-8

comma_utf8 : (later : Bool) → IsUtf8 (comma_if later)
comma_utf8 true = IsUtf8-are_ascii (44 ∷ []) refl
comma_utf8 false = IsUtf8-are_ascii [] refl

number_utf8 : (n : Num) → is_writable_number n ≡ true → IsUtf8 (number_text n)
number_utf8 (unsigned n) h = IsUtf8-from_ascii _ (IsAscii-decimal n (ltb-true _ _ h))
number_utf8 (negative z) h = cc
number_utf8 (float x) h = cc

ascii_then : (x : ℕ) (xs : List ℕ) → are_ascii (x ∷ []) ≡ true → IsUtf8 xs → IsUtf8 (x ∷ xs)
ascii_then x xs h u = IsUtf8-append (x ∷ []) xs (IsUtf8-are_ascii (x ∷ []) h) u

mutual
  text_utf8 : (d : Data) → is_writable d ≡ true → IsUtf8 (compact_text d)
  text_utf8 null h = IsUtf8-are_ascii _ refl
  text_utf8 (boolean b) h = IsUtf8-boolean b
  text_utf8 (number n) h = number_utf8 n h
  text_utf8 (string s) h = IsUtf8-quoted s (IsUtf8-are_ascii s h)
  text_utf8 (array ds) h = ascii_then 91 _ refl (items_utf8 false ds h)
  text_utf8 (object ms) h = ascii_then 123 _ refl (members_utf8 false ms h)

  items_utf8 : (later : Bool) (ds : Items) → are_writable ds ≡ true → IsUtf8 (items_text later ds)
  items_utf8 later no_items h = IsUtf8-are_ascii _ refl
  items_utf8 later (item d ds) h =
      let p = and_parts (is_writable d) (are_writable ds) h in
      IsUtf8-append _ _ (comma_utf8 later) (IsUtf8-append _ _ (text_utf8 d p.0) (items_utf8 true ds p.1))

  members_utf8 : (later : Bool) (ms : Members) → have_writable ms ≡ true → IsUtf8 (members_text later ms)
  members_utf8 later no_members h = IsUtf8-are_ascii _ refl
  members_utf8 later (member k d ms) h =
      let p = and_parts (are_ascii k) (is_writable d && have_writable ms) h in
      let q = and_parts (is_writable d) (have_writable ms) p.1 in
      IsUtf8-append _ _ (comma_utf8 later)
      (IsUtf8-append _ _ (IsUtf8-quoted k (IsUtf8-are_ascii k p.0))
      (ascii_then 58 _ refl (IsUtf8-append _ _ (text_utf8 d q.0) (members_utf8 true ms q.1))))

pub text_is_utf8 : (d : Data) → is_writable d ≡ true → utf8_valid_len (compact_text d) ≡ length (compact_text d)
text_is_utf8 d h = utf8_valid_len-IsUtf8 (compact_text d) (text_utf8 d h)

-- ---- its numbers

mutual
  pub no_float : (d : Data) → is_writable d ≡ true → has_float d ≡ false
  no_float null h = refl
  no_float (boolean b) h = refl
  no_float (number (unsigned n)) h = refl
  no_float (number (negative z)) h = refl
  no_float (number (float x)) h = sym h
  no_float (string s) h = refl
  no_float (array ds) h = no_floats ds h
  no_float (object ms) h = none_floats ms h

  no_floats : (ds : Items) → are_writable ds ≡ true → items_have_float ds ≡ false
  no_floats no_items h = refl
  no_floats (item d ds) h = let p = and_parts (is_writable d) (are_writable ds) h in rw (no_float d p.0) (no_floats ds p.1)

  none_floats : (ms : Members) → have_writable ms ≡ true → members_have_float ms ≡ false
  none_floats no_members h = refl
  none_floats (member k d ms) h =
      let p = and_parts (are_ascii k) (is_writable d && have_writable ms) h in
      let q = and_parts (is_writable d) (have_writable ms) p.1 in
      rw (no_float d q.0) (none_floats ms q.1)

mutual
  numbers : (d : Data) → is_writable d ≡ true → tree.HasNumbers (outline d)
  numbers null h = tt
  numbers (boolean b) h = tt
  numbers (number (unsigned n)) h = IsNumber-decimal n (ltb-true _ _ h)
  numbers (number (negative z)) h = cc
  numbers (number (float x)) h = cc
  numbers (string s) h = tt
  numbers (array ds) h = items_numbers ds h
  numbers (object ms) h = members_numbers ms h

  items_numbers : (ds : Items) → are_writable ds ≡ true → tree.ItemsHaveNumbers (items_outline ds)
  items_numbers no_items h = tt
  items_numbers (item d ds) h = let p = and_parts (is_writable d) (are_writable ds) h in (numbers d p.0, items_numbers ds p.1)

  members_numbers : (ms : Members) → have_writable ms ≡ true → tree.MembersHaveNumbers (members_outline ms)
  members_numbers no_members h = tt
  members_numbers (member k d ms) h =
      let p = and_parts (are_ascii k) (is_writable d && have_writable ms) h in
      let q = and_parts (is_writable d) (have_writable ms) p.1 in
      (numbers d q.0, members_numbers ms q.1)

-- ---- it is read again

-- what is made of the tokens that were read
abbrev made : Option (json.Json × List Token) → Option Data
made r = option_and_then of_json (option_and_then (λ p. json.if_last p.0 p.1) r)

pub text_is_read : (d : Data) → is_writable d ≡ true → of_json (outline d) ≡ Some d → tree.depth (outline d) ≤ max_depth
    → read (compact_text d) ≡ Some d
text_is_read d h back low =
    let ts = tree.json_tokens (outline d) in
    let seen : tokens (compact_text d) ≡ ts = ap tokens (sym (print-outline d)) ∙ tokens-print ts (ArePrintable-json_tokens (outline d) (numbers d h)) in
    ap made (ap (json.value max_depth) (seen ∙ sym (append-nil ts)) ∙ value-json_tokens (outline d) max_depth [] low) ∙ back
