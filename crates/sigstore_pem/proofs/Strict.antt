-- What is read is in the strict form.
use Rattle.std.proofs.Common.{◌≡◌, ℕ, zero, suc, ◌+◌, ◌/◌, ◌<◌, ◌==◌, List, [], ◌∷◌, ◌++◌, length, take, drop, nat_lt, true, false, cond, ◌&&◌, bytes_eq, Option, Some, None, Result, Ok, Err, refl, sym, ap, ◌∙◌, arith}
use Rattle.std.specs.Option.{option_and_then}
use Rattle.std.specs.Result.{result_ok}
use Rattle.std.specs.List.{list_any}
use Rattle.std.proofs.lemmas.List.{take_all, length-append}
use Rattle.std.proofs.Math.Seq.{take-append_seam, drop-append_seam}
use Rattle.std.proofs.lemmas.Slice.Eq.{bytes_eq-Decides}
use Rattle.std.proofs.lemmas.Bool.{ltb-true, eqb-true}
use Rattle.base64.specs.Engines.{standard}
use Rattle.base64.specs.GeneralPurpose.{decode_of}
use Rattle.sigstore_pem.specs.Pem.{lines_of, is_opening, from_opening, is_first, base64_before, octets_of, begin_line, end_line, block_of, content_of}
use Rattle.sigstore_pem.specs.Laws.{pieces_in, pieces, IsFirstBlock, ReadIsStrict}
use Rattle.sigstore_pem.proofs.BlockFacts.{behind}
use Rattle.sigstore_pem.proofs.Readings.{left_of, right_of}

abbrev Lines : Type 0
Lines = List (List ℕ)

-- a test that holds
equal_lines : (a b : List ℕ) → bytes_eq a b ≡ true → a ≡ b
equal_lines a b h = (bytes_eq-Decides a b).0 h

-- ---- the lines before the first block

record Opens (all : Lines) (line : List ℕ) (next : Lines) : Type 0 where
  before : Lines
  lines : all ≡ before ++ (line ∷ next)
  first : list_any is_opening before ≡ false

opens_later : (l : List ℕ) (all : Lines) (line : List ℕ) (next : Lines) → is_opening l ≡ false → Opens all line next → Opens (l ∷ all) line next
opens_later l all line next h o = record { before = l ∷ o.before; lines = ap (λ x. l ∷ x) o.lines; first = rw h o.first }

opens : (all : Lines) (line : List ℕ) (next : Lines) → from_opening all ≡ line ∷ next → Opens all line next
unfolding from_opening
opens [] line next h = cc h
opens (l ∷ all) line next h =
    let go = elim (is_opening l) as (λ v. is_opening l ≡ v → cond v (l ∷ all) (from_opening all) ≡ line ∷ next → Opens (l ∷ all) line next) [
      | true ↦ λ _ h. record { before = []; lines = h; first = refl }
      | false ↦ λ e h. opens_later l all line next e (opens all line next h)
    ] in go refl h

-- ---- the lines of a block

record Ends (all : Lines) (end base64 : List ℕ) : Type 0 where
  behind : Lines
  lines : all ≡ pieces base64 ++ (end ∷ behind)

ends_here : (line end base64 : List ℕ) (next : Lines) → line ≡ end → base64 ≡ [] → Ends (line ∷ next) end base64
unfolding pieces_in
ends_here line end base64 next e f = record { behind = next; lines = ap (λ x. x ∷ next) e ∙ ap (λ x. pieces x ++ (end ∷ next)) (sym f) }

pieces_more : (line rest : List ℕ) → length line ≡ 64 → pieces (line ++ rest) ≡ line ∷ pieces rest
unfolding pieces_in
pieces_more line rest n =
    let count : (length (line ++ rest) + 63) / 64 ≡ suc ((length rest + 63) / 64) = omega (arith, length-append line rest) in
    let front : take 64 (line ++ rest) ≡ line = ap (λ k. take k (line ++ rest)) (sym n) ∙ take-append_seam line rest in
    let back : drop 64 (line ++ rest) ≡ rest = ap (λ k. drop k (line ++ rest)) (sym n) ∙ drop-append_seam line rest in
    ap (λ k. pieces_in k (line ++ rest)) count ∙ ap (λ x. x ∷ pieces_in ((length rest + 63) / 64) (drop 64 (line ++ rest))) front
    ∙ ap (λ x. line ∷ pieces_in ((length rest + 63) / 64) x) back

pieces_last : (line : List ℕ) → 0 < length line → length line < 64 → pieces line ≡ line ∷ []
unfolding pieces_in
pieces_last line h k =
    let one : (length line + 63) / 64 ≡ suc zero = omega arith in
    ap (λ n. pieces_in n line) one ∙ ap (λ x. x ∷ []) (take_all 64 line (omega arith))

first_is : (end : List ℕ) (next : Lines) → is_first end next ≡ true → (behind : Lines) × (next ≡ end ∷ behind)
first_is end [] h = cc h
first_is end (l ∷ next) h = (next, ap (λ x. x ∷ next) (equal_lines l end h))

ends_last : (line end base64 : List ℕ) (next : Lines) → (nat_lt 0 (length line) && nat_lt (length line) 64 && is_first end next) ≡ true → line ≡ base64 → Ends (line ∷ next) end base64
ends_last line end base64 next h e =
    let sizes = left_of _ _ h in
    let there = first_is end next (right_of (nat_lt 0 (length line) && nat_lt (length line) 64) _ h) in
    let alone = pieces_last line (ltb-true _ _ (left_of _ _ sizes)) (ltb-true _ _ (right_of (nat_lt 0 (length line)) _ sizes)) in
    record { behind = there.0; lines = ap (λ x. line ∷ x) there.1 ∙ ap (λ x. x ++ (end ∷ there.0)) (sym alone) ∙ ap (λ x. pieces x ++ (end ∷ there.0)) e }

-- what a full line adds
behind_is : (line base64 : List ℕ) (o : Option (List ℕ)) → behind line o ≡ Some base64 → (rest : List ℕ) × (o ≡ Some rest) × (base64 ≡ line ++ rest)
behind_is line base64 None h = cc h
behind_is line base64 (Some rest) h = (rest, refl, cc h)

ends_later : (line end base64 rest : List ℕ) (next : Lines) → length line ≡ 64 → base64 ≡ line ++ rest → Ends next end rest → Ends (line ∷ next) end base64
ends_later line end base64 rest next n e o =
    record { behind = o.behind; lines = ap (λ x. line ∷ x) o.lines ∙ ap (λ x. x ++ (end ∷ o.behind)) (sym (pieces_more line rest n)) ∙ ap (λ x. pieces x ++ (end ∷ o.behind)) (sym e) }

ends : (end : List ℕ) (all : Lines) (base64 : List ℕ) → base64_before end all ≡ Some base64 → Ends all end base64
unfolding base64_before
ends end [] base64 h = cc h
ends end (line ∷ next) base64 h =
    let full = λ (n : (length line == 64) ≡ true) (h : behind line (base64_before end next) ≡ Some base64).
    let parts = behind_is line base64 (base64_before end next) h in
    ends_later line end base64 parts.0 next (eqb-true _ _ n) parts.2 (ends end next parts.0 parts.1) in
    let last = elim (nat_lt 0 (length line) && nat_lt (length line) 64 && is_first end next) as
    (λ v. (nat_lt 0 (length line) && nat_lt (length line) 64 && is_first end next) ≡ v → cond v (Some line) None ≡ Some base64 → Ends (line ∷ next) end base64) [
      | true ↦ λ e h. ends_last line end base64 next e (cc h)
      | false ↦ λ e h. cc h
    ] in
    let other = elim (length line == 64) as
    (λ v. (length line == 64) ≡ v → cond v (behind line (base64_before end next)) (cond (nat_lt 0 (length line) && nat_lt (length line) 64 && is_first end next) (Some line) None) ≡ Some base64
    → Ends (line ∷ next) end base64) [
      | true ↦ full
      | false ↦ λ _. last refl
    ] in
    let go = elim (bytes_eq line end) as
    (λ v. bytes_eq line end ≡ v → cond v (Some []) (cond (length line == 64) (behind line (base64_before end next)) (cond (nat_lt 0 (length line) && nat_lt (length line) 64 && is_first end next) (Some line) None)) ≡ Some base64
    → Ends (line ∷ next) end base64) [
      | true ↦ λ e h. ends_here line end base64 next (equal_lines line end e) (cc h)
      | false ↦ λ _. other refl
    ] in go refl h

-- ---- the whole

spelled_by : (octets : List ℕ) (o : Option (List ℕ)) → option_and_then octets_of o ≡ Some octets → (base64 : List ℕ) × (o ≡ Some base64) × (octets_of base64 ≡ Some octets)
spelled_by octets None h = cc h
spelled_by octets (Some base64) h = (base64, refl, h)

result_is : {E : Type 0} (octets : List ℕ) (r : Result (List ℕ) E) → result_ok r ≡ Some octets → r ≡ Ok octets
result_is octets (Ok x) h = ap Ok (cc h)
result_is octets (Err e) h = cc h

strict_from : (label text octets line : List ℕ) (next : Lines) → from_opening (lines_of text) ≡ line ∷ next → line ≡ begin_line label
    → option_and_then octets_of (base64_before (end_line label) next) ≡ Some octets → IsFirstBlock label text octets
strict_from label text octets line next e f h =
    let parts = spelled_by octets (base64_before (end_line label) next) h in
    let front = opens (lines_of text) line next e in
    let block = ends (end_line label) next parts.0 parts.1 in
    record {
      before = front.before;
      base64 = parts.0;
      behind = block.behind;
      lines = front.lines ∙ ap (λ x. front.before ++ (x ∷ next)) f ∙ ap (λ x. front.before ++ (begin_line label ∷ x)) block.lines;
      first = front.first;
      spelled = result_is octets (decode_of standard parts.0) parts.2;
    }

strict_in : (label text octets : List ℕ) (found : Lines) → from_opening (lines_of text) ≡ found → block_of (begin_line label) (end_line label) found ≡ Some octets → IsFirstBlock label text octets
strict_in label text octets [] e h = cc h
strict_in label text octets (line ∷ next) e h =
    let go = elim (bytes_eq line (begin_line label)) as
    (λ v. bytes_eq line (begin_line label) ≡ v → cond v (option_and_then octets_of (base64_before (end_line label) next)) None ≡ Some octets → IsFirstBlock label text octets) [
      | true ↦ λ f h. strict_from label text octets line next e (equal_lines line (begin_line label) f) h
      | false ↦ λ _ h. cc h
    ] in go refl h

pub read_strict : ReadIsStrict
unfolding content_of
read_strict label text octets h = strict_in label text octets (from_opening (lines_of text)) refl h
