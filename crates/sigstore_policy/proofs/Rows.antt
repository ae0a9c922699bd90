-- Lemmas on rows of answers.
use Rattle.std.proofs.Common.{◌≡◌, ℕ, ◌+◌, ◌<◌, ◌≤◌, List, [], ◌∷◌, ◌++◌, length, get_or, take, reverse, Bool, true, false, ◌&&◌, ◌||◌, if◌then◌else◌, refl, sym, ap, ◌∙◌, below_more, append_assoc, ◌-◌, arith}
use Rattle.std.proofs.Math.Seq.{take-length, get_or-append_seam}
use Rattle.std.proofs.Math.ListN.{get_or-append}
use Rattle.std.proofs.lemmas.List.{take-append-le, length-append, reverse-append, reverse-reverse, take_more}
use Rattle.std.specs.List.{list_any}
use Rattle.sigstore_policy.specs.Pattern.{Piece, run, one, after_run, fits}
use Rattle.sigstore_policy.specs.Piece.{begin_of, step_of, IsRow}

or_false : (b : Bool) → (b || false) ≡ b
or_false true = refl
or_false false = refl

any_where : (test : List ℕ → Bool) (b : Bool) (xs : List (List ℕ)) → (b && list_any test xs) ≡ list_any test (if b then xs else [])
any_where test true xs = refl
any_where test false xs = refl

pub begun : (p : Piece) (pieces : List Piece) → begin_of p (fits pieces []) ≡ fits (p ∷ pieces) []
begun (run test) pieces = sym (or_false (fits pieces []))
begun (one test) pieces = refl

extended : (p : Piece) (pieces : List Piece) (c : ℕ) (text : List ℕ)
    → step_of p c (fits (p ∷ pieces) text) (fits pieces text) (fits pieces (c ∷ text)) ≡ fits (p ∷ pieces) (c ∷ text)
extended (run test) pieces c text = ap (λ b. fits pieces (c ∷ text) || b) (any_where (fits pieces) (test c) (after_run test text))
extended (one test) pieces c text = refl

reverse_more : (front : List ℕ) (c : ℕ) → reverse (front ++ c ∷ []) ≡ c ∷ reverse front
reverse_more front c = reverse-append front (c ∷ [])

-- the row of the empty text
pub row_start : (pieces : List Piece) (b : Bool) → b ≡ fits pieces [] → IsRow pieces [] (b ∷ [])
row_start pieces b is = record {
  sized = refl;
  tells = λ k below. let none : k ≡ 0 = omega arith in rw none is;
}

-- the row of a text with one character more
pub row_more : (pieces : List Piece) (front : List ℕ) (c : ℕ) (row : List Bool) (b : Bool) → IsRow pieces front row → b ≡ fits pieces (c ∷ reverse front)
    → IsRow pieces (front ++ c ∷ []) (row ++ b ∷ [])
row_more pieces front c row b known is =
    let longer : length (front ++ c ∷ []) ≡ length front + 1 = length-append front (c ∷ []) in
    let wider : length (row ++ b ∷ []) ≡ length row + 1 = length-append row (b ∷ []) in
    let sized : length row ≡ length front + 1 = known.sized in
    record {
      sized = omega arith;
      tells = λ k below.
          below_more (λ k. get_or (row ++ b ∷ []) k false ≡ fits pieces (reverse (take k (front ++ c ∷ [])))) (length front + 1)
          (λ k h.
          let in_row : k < length row = omega arith in
          let in_front : k ≤ length front = omega arith in
          rw (get_or-append row (b ∷ []) false k in_row, take-append-le k front (c ∷ []) in_front) (known.tells k in_front))
          (rw (← sized, get_or-append_seam row b [] false) (last longer sized))
          k (omega arith);
    }
  where
    last : length (front ++ c ∷ []) ≡ length front + 1 → length row ≡ length front + 1 → b ≡ fits pieces (reverse (take (length row) (front ++ c ∷ [])))
    last longer sized = rw (sized, ← longer, take-length (front ++ c ∷ []), reverse_more front c) is

-- one step of the loop that makes a row from that of the later pieces
pub row_step : (p : Piece) (pieces : List Piece) (back : List ℕ) (later row : List Bool) (k : ℕ) (here b : Bool) → k < length back
    → IsRow pieces back later → IsRow (p ∷ pieces) (take k back) row → here ≡ fits (p ∷ pieces) (reverse (take k back))
    → b ≡ step_of p (get_or back k 0) here (get_or later k false) (get_or later (k + 1) false)
    → IsRow (p ∷ pieces) (take (k + 1) back) (row ++ b ∷ []) × (b ≡ fits (p ∷ pieces) (reverse (take (k + 1) back)))
row_step p pieces back later row k here b below known made is step =
    let c : ℕ = get_or back k 0 in
    let more : take (k + 1) back ≡ take k back ++ c ∷ [] = take_more back k 0 below in
    let turned : reverse (take (k + 1) back) ≡ c ∷ reverse (take k back) = ap reverse more ∙ reverse_more (take k back) c in
    let without : get_or later k false ≡ fits pieces (reverse (take k back)) = known.tells k (omega arith) in
    let whole : get_or later (k + 1) false ≡ fits pieces (c ∷ reverse (take k back)) = known.tells (k + 1) (omega arith) ∙ ap (fits pieces) turned in
    let now : b ≡ fits (p ∷ pieces) (c ∷ reverse (take k back)) = step ∙ rw (is, without, whole) (extended p pieces c (reverse (take k back))) in
    (rw more (row_more (p ∷ pieces) (take k back) c row b made now), rw turned now)

-- the answer of the whole text
pub row_end : (pieces : List Piece) (text back : List ℕ) (row : List Bool) → back ≡ reverse text → IsRow pieces back row
    → get_or row (length back) false ≡ fits pieces text
row_end pieces text back row is known =
    known.tells (length back) (omega arith) ∙ ap (fits pieces) (ap reverse (take-length back ∙ is) ∙ reverse-reverse text)

-- the last of what is left goes before those that were taken
pub taken_last : {X : Type 0} (rest later all : List X) (d : X) → 1 ≤ length rest → rest ++ later ≡ all
    → take (length rest - 1) rest ++ (get_or rest (length rest - 1) d ∷ later) ≡ all
taken_last rest later all d some whole =
    let below : length rest - 1 < length rest = omega arith in
    let one_more : length rest - 1 + 1 ≡ length rest = omega arith in
    let front : take (length rest - 1) rest ++ get_or rest (length rest - 1) d ∷ [] ≡ rest =
    sym (take_more rest (length rest - 1) d below) ∙ (rw one_more (take-length rest)) in
    sym (append_assoc (take (length rest - 1) rest) (get_or rest (length rest - 1) d ∷ []) later) ∙ ap (λ xs. xs ++ later) front ∙ whole
