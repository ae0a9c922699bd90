-- A text cut at its first such byte.
use Rattle.std.proofs.Common.{◌≡◌, ℕ, ◌+◌, ◌<◌, List, [], ◌∷◌, length, take, drop, true, false, cond, not, ◌==◌, Option, Some, None, MatchOption, option_map, Bor, refl, ap, arith, add-one, add_comm}
use Rattle.std.specs.List.{position_or_len, before_first, after_first}
use Rattle.command_files.specs.Lines.{cut_of}

take_one : {A : Type 0} (n : ℕ) (x : A) (xs : List A) → take (1 + n) (x ∷ xs) ≡ x ∷ take n xs
take_one n x xs = rw (add_comm 1 n, add-one)

drop_two : {A : Type 0} (n : ℕ) (x : A) (xs : List A) → drop (1 + n + 1) (x ∷ xs) ≡ drop (n + 1) xs
drop_two n x xs = rw (add-one (1 + n), add_comm 1 n)

abbrev Parts : Type 0
Parts = List ℕ × List ℕ

abbrev pair : List ℕ → List ℕ → Option Parts
pair front back = Some (front, back)

abbrev later : ℕ → Option Parts → Option Parts
later b o = option_map (λ parts. (b ∷ parts.0, parts.1)) o

cut_lacks : (at : ℕ) (s : List ℕ) → position_or_len (λ b. b == at) s ≡ length s → cut_of at s ≡ None
cut_lacks at [] h = refl
cut_lacks at (b ∷ bs) h =
    let n = position_or_len (λ b. b == at) bs in
    let go = elim (b == at) as (λ v. cond (not v) (1 + n) 0 ≡ length (b ∷ bs) → cond v (pair [] bs) (later b (cut_of at bs)) ≡ None) [
      | true ↦ λ h. absurd (omega arith)
      | false ↦ λ h. ap (later b) (cut_lacks at bs (omega arith))
    ] in go h

cut_found : (at : ℕ) (s : List ℕ) → position_or_len (λ b. b == at) s < length s → cut_of at s ≡ Some (before_first (λ b. b == at) s, after_first (λ b. b == at) s)
cut_found at [] h = absurd (omega arith)
cut_found at (b ∷ bs) h =
    let n = position_or_len (λ b. b == at) bs in
    let go = elim (b == at) as (λ v. cond (not v) (1 + n) 0 < length (b ∷ bs) → cond v (pair [] bs) (later b (cut_of at bs))
    ≡ pair (take (cond (not v) (1 + n) 0) (b ∷ bs)) (drop (cond (not v) (1 + n) 0 + 1) (b ∷ bs))) [
      | true ↦ λ h. refl
      | false ↦ λ h. rw (take_one n b bs, drop_two n b bs) (ap (later b) (cut_found at bs (omega arith)))
    ] in go h

-- `split_once` at an ASCII character
pub cut_answers : (at : ℕ) (s : List ℕ) (r : Option (Bor (List ℕ) × Bor (List ℕ)))
    → MatchOption r (position_or_len (λ b. b == at) s ≡ length s)
    (λ x. (position_or_len (λ b. b == at) s < length s) × (x.0.now ≡ before_first (λ b. b == at) s) × (x.1.now ≡ after_first (λ b. b == at) s))
    → MatchOption r (cut_of at s ≡ None) (λ parts. cut_of at s ≡ Some (parts.0.now, parts.1.now))
cut_answers at s None h = cut_lacks at s h
cut_answers at s (Some x) h = let e = cut_found at s h.0 in let f = h.1 in let g = h.2 in cc
