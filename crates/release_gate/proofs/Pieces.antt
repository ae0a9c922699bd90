-- A piece of a file.
use Rattle.std.proofs.Common.{◌≡◌, ◌⊎◌, inl, inr, ℕ, ◌+◌, ◌<◌, ◌≤◌, min, List, ◌++◌, length, take, drop, sym, ap, ◌∙◌, arith, take-append-drop}
use Rattle.std.proofs.lemmas.List.{drop_all, drop-drop}
use Rattle.std.proofs.lemmas.Bool.{cases_lt}
use Rattle.std.proofs.Math.Seq.{take-append_seam}
use Rattle.release_gate.specs.Folder.{IsPiece}

front_of : (xs ys : List ℕ) (n : ℕ) → length xs ≡ n → take n (xs ++ ys) ≡ xs
front_of xs ys n e = ap (λ m. take m (xs ++ ys)) (sym e) ∙ take-append_seam xs ys

given_part : (bytes given rest : List ℕ) (at n : ℕ) → given ≡ take n (drop at bytes) → length given ≡ n → drop at bytes ≡ take n (given ++ rest) ++ drop (at + n) bytes
given_part bytes given rest at n is e =
    sym (take-append-drop n (drop at bytes)) ∙ ap (λ p. take n (drop at bytes) ++ p) (drop-drop n at bytes) ∙ ap (λ p. p ++ drop (at + n) bytes) (sym is ∙ sym (front_of given rest n e))

-- behind the end nothing is given
pub piece_is : (bytes given rest : List ℕ) (offset at n : ℕ) → at ≡ min offset (length bytes) → given ≡ take n (drop at bytes) → length given ≡ n
    → (n ≡ 0 → 0 < length (given ++ rest) → length bytes ≤ at) → at + n ≤ length bytes → IsPiece bytes offset (given ++ rest) n
piece_is bytes given rest offset at n is copied count end within = record { given = by_place (cases_lt (length bytes) offset); ended = λ none room. drop_all (offset + n) bytes (let done = end none room in omega (arith, is)) }
  where
    by_place : (length bytes < offset) ⊎ (offset ≤ length bytes) → drop offset bytes ≡ take n (given ++ rest) ++ drop (offset + n) bytes
    by_place (inl behind) =
        let none : n ≡ 0 = omega (arith, is, within) in
        drop_all offset bytes (omega arith) ∙ sym (drop_all (offset + n) bytes (omega arith)) ∙ ap (λ m. take m (given ++ rest) ++ drop (offset + n) bytes) (sym none)
    by_place (inr inside) =
        let same : at ≡ offset = omega (arith, is) in
        ap (λ o. drop o bytes) (sym same) ∙ given_part bytes given rest at n copied count ∙ ap (λ o. take n (given ++ rest) ++ drop (o + n) bytes) same
