-- A list cut at its first line feed.
use Rattle.std.proofs.Common.{◌≡◌, ℕ, ◌+◌, ◌<◌, ◌≤◌, List, [], ◌∷◌, length, take, drop, Bool, true, false, cond, not, nat_lt, ◌==◌, Option, Some, None, refl, sym, ap, ◌∙◌, subst, arith, add-one, add_comm, length-drop, le_antisymm, ltb-true}
use Rattle.std.specs.List.{position_or_len, position}
use Rattle.std.proofs.lemmas.Bool.{ltb-false}
use Rattle.std.proofs.lemmas.List.{drop-drop}
use Rattle.foundation.specs.Results.{some_same}
use Rattle.command_bundles.specs.Lines.{begun, lines_of}

abbrev is_feed : ℕ → Bool
is_feed octet = octet == 10

abbrev feed : List ℕ → ℕ
feed s = position_or_len is_feed s

take_one : {A : Type 0} (n : ℕ) (x : A) (xs : List A) → take (1 + n) (x ∷ xs) ≡ x ∷ take n xs
take_one n x xs = rw (add_comm 1 n, add-one)

drop_two : {A : Type 0} (n : ℕ) (x : A) (xs : List A) → drop (1 + n + 1) (x ∷ xs) ≡ drop (n + 1) xs
drop_two n x xs = rw (add-one (1 + n), add_comm 1 n)

-- no line feed stands in it
lines_uncut : (s : List ℕ) → feed s ≡ length s → lines_of s ≡ s ∷ []
lines_uncut [] h = refl
lines_uncut (b ∷ bs) h =
    let n = feed bs in
    let go = elim (b == 10) as (λ v. cond (not v) (1 + n) 0 ≡ length (b ∷ bs) → cond v ([] ∷ lines_of bs) (begun b (lines_of bs)) ≡ (b ∷ bs) ∷ []) [
      | true ↦ λ h. absurd (omega arith)
      | false ↦ λ h. ap (begun b) (lines_uncut bs (omega arith))
    ] in go h

-- the first one stands there
lines_cut : (s : List ℕ) → feed s < length s → lines_of s ≡ take (feed s) s ∷ lines_of (drop (feed s + 1) s)
lines_cut [] h = absurd (omega arith)
lines_cut (b ∷ bs) h =
    let n = feed bs in
    let go = elim (b == 10) as (λ v. cond (not v) (1 + n) 0 < length (b ∷ bs) → cond v ([] ∷ lines_of bs) (begun b (lines_of bs))
    ≡ take (cond (not v) (1 + n) 0) (b ∷ bs) ∷ lines_of (drop (cond (not v) (1 + n) 0 + 1) (b ∷ bs))) [
      | true ↦ λ h. refl
      | false ↦ λ h. rw (take_one n b bs, drop_two n b bs) (ap (begun b) (lines_cut bs (omega arith)))
    ] in go h

abbrev at : List ℕ → Bool → Option ℕ
at s below = cond below (Some (feed s)) None

found : (s : List ℕ) (k : ℕ) (b : Bool) → nat_lt (feed s) (length s) ≡ b → at s b ≡ Some k → (feed s ≡ k) × (feed s < length s)
found s k true below h = (some_same (feed s) k h, ltb-true (feed s) (length s) below)
found s k false below h = cc

-- where the code finds one
pub cut_at : (s line rest next : List ℕ) (k : ℕ) → position is_feed s ≡ Some k → line ≡ take k s → rest ≡ drop k s → next ≡ drop 1 rest
    → (lines_of s ≡ line ∷ lines_of next) × (length next < length s)
cut_at s line rest next k p l r n =
    let f = found s k (nat_lt (feed s) (length s)) refl p in
    let behind : next ≡ drop (k + 1) s = n ∙ ap (drop 1) r ∙ drop-drop 1 k s in (
      subst (λ x. lines_of s ≡ x ∷ lines_of next) (sym l)
          (subst (λ x. lines_of s ≡ take k s ∷ lines_of x) (sym behind)
          (subst (λ x. lines_of s ≡ take x s ∷ lines_of (drop (x + 1) s)) f.0 (lines_cut s f.1))),
      shorter f.0 f.1 behind,
    )
  where
    shorter : feed s ≡ k → feed s < length s → next ≡ drop (k + 1) s → length next < length s
    shorter same below is = subst (λ x. length x < length s) (sym is) (rw (length-drop) (omega arith))

feed_below : (s : List ℕ) → feed s ≤ length s
feed_below [] = omega arith
feed_below (b ∷ bs) =
    let n = feed bs in
    let h = feed_below bs in
    elim (b == 10) as (λ v. cond (not v) (1 + n) 0 ≤ length (b ∷ bs)) [
      | true ↦ omega arith
      | false ↦ omega arith
    ]

lacking : (s : List ℕ) (b : Bool) → nat_lt (feed s) (length s) ≡ b → at s b ≡ None → feed s ≡ length s
lacking s true below h = cc
lacking s false below h = le_antisymm (feed_below s) (ltb-false (feed s) (length s) below)

pub uncut : (s : List ℕ) → position is_feed s ≡ None → lines_of s ≡ s ∷ []
uncut s p = lines_uncut s (lacking s (nat_lt (feed s) (length s)) refl p)
