-- What is written is read.
use Rattle.std.proofs.Common.{◌≡◌, ℕ, zero, suc, ◌<◌, ◌≤◌, ◌==◌, List, [], ◌∷◌, ◌++◌, length, take, drop, replicate, slice_index, nat_lt, Bool, true, false, not, ◌&&◌, bytes_eq, Some, refl, sym, ap, ◌∙◌, arith, append_assoc, inl, inr}
use Rattle.std.specs.Option.{option_and_then}
use Rattle.std.specs.Result.{result_ok}
use Rattle.std.specs.List.{list_all}
use Rattle.std.proofs.lemmas.List.{take_all, take-append-drop, length-drop, length-take-le}
use Rattle.std.proofs.lemmas.List.Folds.{list_all-append}
use Rattle.std.proofs.lemmas.Bool.{cases_lt, lt-ltb}
use Rattle.base64.specs.Rfc4648.{encode_symbols, padding_len}
use Rattle.base64.specs.Engines.{standard}
use Rattle.base64.specs.GeneralPurpose.{encode_of, IsBytes}
use Rattle.base64.proofs.EngineFacts.{decode_of-encode_of}
use Rattle.sigstore_pem.specs.Pem.{is_line_end, lines_of, from_opening, is_first, base64_before, octets_of, begin_line, end_line, certificate_label, content_of, block_of, begun}
use Rattle.sigstore_pem.specs.Written.{wrapped_in, wrapped}
use Rattle.sigstore_pem.specs.Laws.{WrittenIsRead}
use Rattle.sigstore_pem.proofs.LineFacts.{has_no_end, plain_first, not_true}
use Rattle.sigstore_pem.proofs.BlockFacts.{behind, full_line, last_line}
use Rattle.sigstore_pem.proofs.WrittenFacts.{line_count}

-- neither the end of a line nor a hyphen
abbrev is_plain : ℕ → Bool
is_plain b = not (is_line_end b) && not (b == 45)

abbrev are_plain : List ℕ → Bool
are_plain s = list_all is_plain s

pub left_of : (a b : Bool) → (a && b) ≡ true → a ≡ true
left_of true b h = refl
left_of false b h = cc h

pub right_of : (a b : Bool) → (a && b) ≡ true → b ≡ true
right_of true b h = h
right_of false b h = cc h

both_of : (a b : Bool) → a ≡ true → b ≡ true → (a && b) ≡ true
both_of true b h k = k
both_of false b h k = cc h

plain_ends : (s : List ℕ) → are_plain s ≡ true → has_no_end s ≡ true
plain_ends [] h = refl
plain_ends (b ∷ s) h = both_of _ _ (left_of _ _ (left_of _ _ h)) (plain_ends s (right_of (is_plain b) _ h))

plain_take : (n : ℕ) (s : List ℕ) → are_plain s ≡ true → are_plain (take n s) ≡ true
plain_take n s h =
    let parts : (are_plain (take n s) && are_plain (drop n s)) ≡ true = sym (list_all-append is_plain (take n s) (drop n s)) ∙ ap are_plain (take-append-drop n s) ∙ h in
    left_of _ _ parts

plain_drop : (n : ℕ) (s : List ℕ) → are_plain s ≡ true → are_plain (drop n s) ≡ true
plain_drop n s h =
    let parts : (are_plain (take n s) && are_plain (drop n s)) ≡ true = sym (list_all-append is_plain (take n s) (drop n s)) ∙ ap are_plain (take-append-drop n s) ∙ h in
    right_of (are_plain (take n s)) _ parts

-- a line without an end of its own, and LF
feed_line : (line s : List ℕ) → has_no_end line ≡ true → lines_of (line ++ (10 ∷ s)) ≡ line ∷ lines_of s
unfolding lines_of
feed_line [] s h = refl
feed_line (b ∷ line) s h =
    plain_first b (line ++ (10 ∷ s)) (not_true (is_line_end b) (left_of _ _ h)) ∙ ap (begun b) (feed_line line s (right_of (not (is_line_end b)) _ h))

-- the line behind a certificate
abbrev end : List ℕ
end = end_line certificate_label

-- such a text isn't that line
not_end : (b : ℕ) (s : List ℕ) → is_plain b ≡ true → bytes_eq (b ∷ s) end ≡ false
not_end b s h =
    let other : (b == 45) ≡ false = not_true (b == 45) (right_of (not (is_line_end b)) _ h) in
    rw other refl

tail_lines : lines_of (end ++ (10 ∷ [])) ≡ end ∷ []
unfolding lines_of
tail_lines = refl

read_none : base64_before end (lines_of (end ++ (10 ∷ []))) ≡ Some []
unfolding base64_before
read_none = rw tail_lines refl

count_rest : (n : ℕ) (s : List ℕ) → suc n ≡ line_count s → 64 ≤ length s → n ≡ line_count (drop 64 s)
count_rest n s e h = omega (arith, length-drop 64 s)

-- the lines behind a line
abbrev behind_line : ℕ → List ℕ → List (List ℕ)
behind_line n rest = lines_of (wrapped_in n rest ++ (end ++ (10 ∷ [])))

last_read : (line : List ℕ) (ls : List (List ℕ)) → 0 < length line → length line < 64 → bytes_eq line end ≡ false → ls ≡ end ∷ [] → base64_before end (line ∷ ls) ≡ Some line
last_read line ls some short other e =
    let last : (nat_lt 0 (length line) && nat_lt (length line) 64 && is_first end ls) ≡ true =
    both_of _ _ (both_of _ _ (lt-ltb 0 (length line) some) (lt-ltb (length line) 64 short)) (ap (is_first end) e) in
    last_line end line ls other (λ q. absurd (omega arith)) last

-- one line of what is written
line_read : (n : ℕ) (whole line rest : List ℕ) → line ≡ take 64 whole → rest ≡ drop 64 whole → suc n ≡ line_count whole → 0 < length whole → bytes_eq line end ≡ false
    → (64 ≤ length whole → base64_before end (behind_line n rest) ≡ Some rest) → base64_before end (line ∷ behind_line n rest) ≡ Some whole
unfolding wrapped_in
line_read n whole line rest e f count some other more = elim (cases_lt (length whole) 64) [
  | inl lt ↦
      let none : n ≡ zero = omega arith in
      let same : line ≡ whole = e ∙ take_all 64 whole (omega arith) in
      let size : length line ≡ length whole = ap length same in
      last_read line (behind_line n rest) (omega arith) (omega arith) other (ap (λ k. behind_line k rest) none ∙ tail_lines) ∙ ap Some same
  | inr ge ↦
      let size : length line ≡ 64 = ap length e ∙ length-take-le 64 whole ge in
      full_line end line (behind_line n rest) other size ∙ ap (behind line) (more ge)
      ∙ ap Some (ap (λ x. x ++ rest) e ∙ ap (λ x. take 64 whole ++ x) f ∙ take-append-drop 64 whole)
]

-- what is written is cut into these lines
cut_written : (n : ℕ) (line rest : List ℕ) → are_plain line ≡ true → lines_of ((line ++ (10 ∷ wrapped_in n rest)) ++ (end ++ (10 ∷ []))) ≡ line ∷ behind_line n rest
cut_written n line rest p =
    ap lines_of (append_assoc line (10 ∷ wrapped_in n rest) (end ++ (10 ∷ []))) ∙ feed_line line (wrapped_in n rest ++ (end ++ (10 ∷ []))) (plain_ends line p)

read_lines : (n : ℕ) (s : List ℕ) → n ≡ line_count s → are_plain s ≡ true → base64_before end (behind_line n s) ≡ Some s
unfolding wrapped_in
read_lines zero [] e p = read_none
read_lines zero (b ∷ s) e p = absurd (omega arith)
read_lines (suc n) [] e p = absurd (omega arith)
read_lines (suc n) (b ∷ s) e p =
    ap (base64_before end) (cut_written n (take 64 (b ∷ s)) (drop 64 (b ∷ s)) (plain_take 64 (b ∷ s) p))
    ∙ line_read n (b ∷ s) (take 64 (b ∷ s)) (drop 64 (b ∷ s)) refl refl e (omega arith) (not_end b (take 63 s) (left_of (is_plain b) _ p))
    (λ ge. read_lines n (drop 64 (b ∷ s)) (count_rest n (b ∷ s) e ge) (plain_drop 64 (b ∷ s) p))

-- the symbols of base64
abbrev symbols : List ℕ
symbols = standard.encode_table

-- every symbol is plain
symbol_plain : (t : List ℕ) → are_plain t ≡ true → (i : ℕ) → is_plain (slice_index t i) ≡ true
symbol_plain [] h i = refl
symbol_plain (b ∷ t) h zero = left_of _ _ h
symbol_plain (b ∷ t) h (suc i) = symbol_plain t (right_of (is_plain b) _ h) i

symbols_plain : (t : List ℕ) → are_plain t ≡ true → (m : List ℕ) → are_plain (encode_symbols t m) ≡ true
unfolding encode_symbols
symbols_plain t h [] = refl
symbols_plain t h (a ∷ []) = both_of _ _ (symbol_plain t h _) (both_of _ _ (symbol_plain t h _) refl)
symbols_plain t h (a ∷ b ∷ []) = both_of _ _ (symbol_plain t h _) (both_of _ _ (symbol_plain t h _) (both_of _ _ (symbol_plain t h _) refl))
symbols_plain t h (a ∷ b ∷ c ∷ m) =
    both_of _ _ (symbol_plain t h _) (both_of _ _ (symbol_plain t h _) (both_of _ _ (symbol_plain t h _) (both_of _ _ (symbol_plain t h _) (symbols_plain t h m))))

padding_plain : (k : ℕ) → are_plain (replicate k 61) ≡ true
padding_plain zero = refl
padding_plain (suc k) = padding_plain k

table_plain : are_plain symbols ≡ true
table_plain = refl

encoded_plain : (der : List ℕ) → are_plain (encode_of standard der) ≡ true
encoded_plain der =
    list_all-append is_plain (encode_symbols symbols der) (replicate (padding_len (length der)) 61)
    ∙ both_of _ _ (symbols_plain symbols table_plain der) (padding_plain (padding_len (length der)))

octets_encoded : (der : List ℕ) → IsBytes der → octets_of (encode_of standard der) ≡ Some der
octets_encoded der bytes = ap result_ok (decode_of-encode_of standard der refl bytes)

-- the line before a certificate
abbrev begin : List ℕ
begin = begin_line certificate_label

begin_read : (ls : List (List ℕ)) → block_of begin end (from_opening (begin ∷ ls)) ≡ option_and_then octets_of (base64_before end ls)
unfolding from_opening
begin_read ls = refl

pub written_read : WrittenIsRead
unfolding content_of
written_read der bytes =
    let text : List ℕ = encode_of standard der in
    let body : List ℕ = wrapped text ++ (end ++ (10 ∷ [])) in
    ap (λ ls. block_of begin end (from_opening ls)) (feed_line begin body refl) ∙ begin_read (lines_of body)
    ∙ ap (option_and_then octets_of) (read_lines (line_count text) text refl (encoded_plain der)) ∙ octets_encoded der bytes
