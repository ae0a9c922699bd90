-- The first refusal of a number, and the lines of a summary.
use Rattle.std.proofs.Common.{◌≡◌, ℕ, suc, ◌+◌, ◌-◌, ◌==◌, ◌<◌, List, [], ◌∷◌, ◌++◌, cond, true, false, Some, None, Ok, Err, refl, sym, ap, ◌∙◌, append_assoc, arith, length, take, drop, get_or, drop-cons, add-one}
use Rattle.std.proofs.Math.Seq.{take-suc}
use Rattle.std.proofs.lemmas.List.{append-nil, take-append-drop}
use Rattle.sigstore_judgement.specs.declared.error.Error.{Error}
use Rattle.sigstore_judgement.specs.Error.{number_of}
use Rattle.command_generate.specs.Judged.{Outcome, first_of, line_if, counted_of, lines_from}

-- none in the front: then it is that of the rest
pub first_behind : (number : ℕ) (front rest : List Outcome) → first_of number front ≡ None → first_of number (front ++ rest) ≡ first_of number rest
first_behind number [] rest h = refl
first_behind number (Ok x ∷ front) rest h = first_behind number front rest h
first_behind number (Err e ∷ front) rest h =
    elim (number_of e == number) as (λ v. cond v (Some e) (first_of number front) ≡ None
    → cond v (Some e) (first_of number (front ++ rest)) ≡ first_of number rest) [
      | true ↦ λ h. absurd (cc h)
      | false ↦ λ h. first_behind number front rest h
    ] h

-- and where the next is none either, none in both
pub none_more : (number : ℕ) (front : List Outcome) (next : Outcome) → first_of number front ≡ None → first_of number (next ∷ []) ≡ None
    → first_of number (front ++ next ∷ []) ≡ None
none_more number front next h k = first_behind number front (next ∷ []) h ∙ k

-- where the next is one, it is the first of the whole
pub found_there : (number : ℕ) (front : List Outcome) (next : Outcome) (rest : List Outcome) (e : Error) → first_of number front ≡ None
    → Some e ≡ first_of number (next ∷ []) → Some e ≡ first_of number (front ++ next ∷ rest)
found_there number front (Ok x) rest e h k = absurd (cc k)
found_there number front (Err f) rest e h k =
    let here = elim (number_of f == number) as (λ v. Some e ≡ cond v (Some f) None → Some e ≡ cond v (Some f) (first_of number rest)) [
      | true ↦ λ k. k
      | false ↦ λ k. absurd (cc k)
    ] in
    here k ∙ sym (first_behind number front (Err f ∷ rest) h)

-- where one more number is to come
pub line_more : (outcomes : List Outcome) (whole text old : List ℕ) (number : ℕ) → number < 33
    → text ≡ old ++ line_if (first_of number outcomes) (counted_of number outcomes)
    → whole ≡ old ++ lines_from number (33 - number) outcomes
    → whole ≡ text ++ lines_from (number + 1) (33 - (number + 1)) outcomes
unfolding lines_from
line_more outcomes whole text old number h t e =
    let line = line_if (first_of number outcomes) (counted_of number outcomes) in
    let more : 33 - number ≡ suc (33 - (number + 1)) = omega (arith, h) in
    let next : suc number ≡ number + 1 = omega arith in
    let step : lines_from number (33 - number) outcomes ≡ line ++ lines_from (number + 1) (33 - (number + 1)) outcomes = rw (more, sym next) refl in
    rw t (e ∙ (ap (λ rest. old ++ rest) step ∙ sym (append_assoc old line (lines_from (number + 1) (33 - (number + 1)) outcomes))))

-- where the last number was
pub no_more : (outcomes : List Outcome) (whole text : List ℕ) (number : ℕ) → number ≡ 33
    → whole ≡ text ++ lines_from number (33 - number) outcomes → text ≡ whole
unfolding lines_from
no_more outcomes whole text number n e = sym (e ∙ rw n (append-nil text))

-- ---- over a slice

-- no more than None is none of the next
pub none_at : (number index : ℕ) (outcomes : List Outcome) (next : Outcome) → index < length outcomes → next ≡ get_or outcomes index next
    → first_of number (take index outcomes) ≡ None → first_of number (next ∷ []) ≡ None
    → first_of number (take (index + 1) outcomes) ≡ None
none_at number index outcomes next h e n k =
    let longer : take (index + 1) outcomes ≡ take index outcomes ++ next ∷ [] =
    rw add-one (take-suc outcomes index next h ∙ ap (λ x. take index outcomes ++ x ∷ []) (sym e)) in
    rw longer (none_more number (take index outcomes) next n k)

pub found_at : (number index : ℕ) (outcomes : List Outcome) (next : Outcome) (e : Error) → index < length outcomes
    → next ≡ get_or outcomes index next → first_of number (take index outcomes) ≡ None → Some e ≡ first_of number (next ∷ [])
    → Some e ≡ first_of number outcomes
found_at number index outcomes next e h is n k =
    let rest : drop index outcomes ≡ next ∷ drop (suc index) outcomes =
    drop-cons outcomes index next h ∙ ap (λ x. x ∷ drop (suc index) outcomes) (sym is) in
    let whole : take index outcomes ++ next ∷ drop (suc index) outcomes ≡ outcomes =
    ap (λ tail. take index outcomes ++ tail) (sym rest) ∙ take-append-drop index outcomes in
    found_there number (take index outcomes) next (drop (suc index) outcomes) e n k ∙ ap (first_of number) whole
