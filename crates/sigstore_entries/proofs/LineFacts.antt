-- Lines of a text, cut off one by one.
use Rattle.std.proofs.Common.{◌≡◌, ℕ, zero, suc, ◌+◌, ◌<◌, List, [], ◌∷◌, ◌++◌, length, take, drop, Bool, true, false, ◌==◌, Option, Some, None, MatchOption, Result, Ok, Err, refl, ap, sym, ◌∙◌, arith, eq-eqb, add-one, append_assoc}
use Rattle.std.specs.List.{join_with_byte, position_or_len}
use Rattle.std.proofs.lemmas.List.{get_or_default, length-append}
use Rattle.std.proofs.lemmas.List.Sums.{position_or_len_is}
use Rattle.std.proofs.lemmas.List.Splits.{slice_split_none, slice_split_first, length-slice_split, join_with_byte-slice_split}
use Rattle.std.proofs.lemmas.Bool.{ne_eqb}
use Rattle.sigstore_types_parts.specs.declared.error.CheckpointRule.TheVariants.{Extension}
use Rattle.memchr.specs.Find.{IsFirstByte, is_byte}
use Rattle.foundation.specs.Steps.{◌>>=◌}
use Rattle.sigstore_types_parts.specs.declared.error.CheckpointRule.{CheckpointRule}
use Rattle.sigstore_types_parts.specs.declared.error.TypesError.{TypesError}
use Rattle.sigstore_entries.specs.declared.signature_line.CheckpointSignature.{CheckpointSignature}
use Rattle.sigstore_entries.specs.Checkpoint.{lines_of, text_of, ended_of, behind_extensions, signed_of, signature_of, is_end, signatures_of}

abbrev Lines : Type 0
Lines = List (List ℕ)

abbrev is_feed : ℕ → Bool
is_feed b = b == 10

isnt : (b : Bool) → ¬ (b ≡ true) → b ≡ false
isnt true h = absurd (h refl)
isnt false h = refl

-- where the search for a line feed ends
pub cut_found : (text : List ℕ) (r : Option ℕ) → IsFirstByte (is_byte 10) text r
    → MatchOption r (lines_of text ≡ text ∷ []) (λ end. (end < length text) × (lines_of text ≡ take end text ∷ lines_of (drop (end + 1) text)))
cut_found text None h =
    slice_split_none is_feed text (λ k d less. ap is_feed (get_or_default text k d 0 less) ∙ isnt _ (h k (omega arith) less))
cut_found text (Some end) h =
    let less : end < length text = h.0.high in
    let at : position_or_len is_feed text ≡ end =
    position_or_len_is is_feed text end 0 (omega arith) (λ k lower. isnt _ (h.0.before k (omega arith) lower)) (λ _. h.1) in
    let found : position_or_len is_feed text < length text = omega arith in (
      less,
      slice_split_first is_feed text 0 found ∙ ap (λ n. take n text ∷ lines_of (drop (n + 1) text)) at,
    )

-- a text has a line
has_line : (text : List ℕ) → 0 < length (lines_of text)
has_line text = omega (arith, length-slice_split is_feed text)

-- what holds of a line and others holds of the lines of a text
among : (P : Lines → Type 0) → ((line : List ℕ) (lines : Lines) → P (line ∷ lines)) → (text : List ℕ) → P (lines_of text)
among P each text =
    let go = elim (lines_of text) as (λ lines. 0 < length lines → P lines) [
      | [] ↦ λ h. absurd (omega arith)
      | line ∷ lines ↦ λ h. each line lines
    ] in go (has_line text)

-- a line with a line feed behind it
pub ended_line : (rule : CheckpointRule) (line rest : List ℕ) → ended_of rule (line ∷ lines_of rest) ≡ Ok (line, lines_of rest)
ended_line rule line rest = among (λ lines. ended_of rule (line ∷ lines) ≡ Ok (line, lines)) (λ next lines. refl) rest

-- the empty line
pub extensions_end : (line rest : List ℕ) → length line ≡ 0 → behind_extensions (line ∷ lines_of rest) ≡ Ok (lines_of rest)
extensions_end line rest h =
    let empty : (length line == 0) ≡ true = eq-eqb _ _ h in
    among (λ lines. behind_extensions (line ∷ lines) ≡ Ok lines) (λ next lines. rw empty refl) rest

-- an extension line
pub extensions_more : (line rest : List ℕ) → 0 < length line → behind_extensions (line ∷ lines_of rest) ≡ (text_of Extension line >>= λ _. behind_extensions (lines_of rest))
extensions_more line rest h =
    let some : (length line == 0) ≡ false = ne_eqb _ _ (λ q. absurd (omega arith)) in
    among (λ lines. behind_extensions (line ∷ lines) ≡ (text_of Extension line >>= λ _. behind_extensions lines)) (λ next lines. rw some refl) rest

pub signed_end : (line rest : List ℕ) → length line ≡ 0 → signed_of (line ∷ lines_of rest) ≡ []
signed_end line rest h =
    let empty : (length line == 0) ≡ true = eq-eqb _ _ h in
    among (λ lines. signed_of (line ∷ lines) ≡ []) (λ next lines. rw empty refl) rest

pub signed_more : (line rest : List ℕ) → 0 < length line → signed_of (line ∷ lines_of rest) ≡ line ++ (10 ∷ signed_of (lines_of rest))
signed_more line rest h =
    let some : (length line == 0) ≡ false = ne_eqb _ _ (λ q. absurd (omega arith)) in
    among (λ lines. signed_of (line ∷ lines) ≡ line ++ (10 ∷ signed_of lines)) (λ next lines. rw some refl) rest

-- the lines of a text end where the text is empty
end_where : (text : List ℕ) (lines : Lines) → join_with_byte 10 lines ≡ text → 0 < length lines → is_end lines ≡ (length text == 0)
end_where text [] e h = absurd (omega arith)
end_where text (line ∷ []) e h = ap (λ t. length t == 0) e
end_where text (line ∷ next ∷ lines) e h =
    let size : length text ≡ length line + length (10 ∷ join_with_byte 10 (next ∷ lines)) = ap length (sym e) ∙ length-append line (10 ∷ join_with_byte 10 (next ∷ lines)) in
    sym (ne_eqb _ _ (λ q. absurd (omega (arith, size))))

pub is_end_of : (text : List ℕ) → is_end (lines_of text) ≡ (length text == 0)
is_end_of text = end_where text (lines_of text) (join_with_byte-slice_split 10 text) (has_line text)

-- what stands behind a line feed at a place
pub behind_feed : (end : ℕ) (text : List ℕ) → drop 1 (drop end text) ≡ drop (end + 1) text
behind_feed zero text = refl
behind_feed (suc end) [] = rw (add-one (suc end)) refl
behind_feed (suc end) (b ∷ text) = rw (add-one (suc end)) (behind_feed end text ∙ ap (λ n. drop n text) (add-one end))

-- ---- signatures

abbrev Signatures : Type 0
Signatures = Result (List CheckpointSignature) TypesError

regrouped : (found : List CheckpointSignature) (s : CheckpointSignature) (r : Signatures)
    → ((r >>= λ others. Ok (s ∷ others)) >>= λ others. Ok (found ++ others)) ≡ (r >>= λ others. Ok ((found ++ s ∷ []) ++ others))
regrouped found s (Ok others) = ap Ok (sym (append_assoc found (s ∷ []) others))
regrouped found s (Err e) = refl

-- a line with others behind it
pub signatures_more : (all rest line next : List ℕ) (found : List CheckpointSignature) (s : CheckpointSignature)
    → signatures_of (lines_of all) ≡ (signatures_of (lines_of rest) >>= λ others. Ok (found ++ others)) → lines_of rest ≡ line ∷ lines_of next
    → signature_of line ≡ Ok s → 0 < length next → signatures_of (lines_of all) ≡ (signatures_of (lines_of next) >>= λ others. Ok ((found ++ s ∷ []) ++ others))
signatures_more all rest line next found s e f g h =
    let more : is_end (lines_of next) ≡ false = is_end_of next ∙ ne_eqb _ _ (λ q. absurd (omega arith)) in
    let here : signatures_of (line ∷ lines_of next) ≡ (signatures_of (lines_of next) >>= λ others. Ok (s ∷ others)) = rw (g, more) refl in
    e ∙ ap (λ lines. signatures_of lines >>= λ others. Ok (found ++ others)) f ∙ ap (λ r. r >>= λ others. Ok (found ++ others)) here
    ∙ regrouped found s (signatures_of (lines_of next))
