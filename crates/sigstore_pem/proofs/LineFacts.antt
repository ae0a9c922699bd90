-- The lines of a text.
use Rattle.std.proofs.Common.{◌≡◌, ℕ, ◌<◌, ◌≤◌, ◌==◌, zero, suc, List, [], ◌∷◌, length, take, drop, Bool, true, false, not, cond, ◌&&◌, ◌||◌, refl, sym, ap, ◌∙◌, arith, slice_index, inl, inr, add-zero}
use Rattle.std.proofs.lemmas.Bool.{cases_lt}
use Rattle.std.proofs.lemmas.List.{take_all, drop_all, get_or-drop}
use Rattle.std.specs.List.{list_all}
use Rattle.sigstore_pem.specs.Pem.{is_line_end, is_at_line_feed, begun, lines_of}

abbrev pub has_no_end : List ℕ → Bool
has_no_end s = list_all (λ b. not (is_line_end b)) s

-- a byte that isn't the end of a line belongs to the first line
pub plain_first : (b : ℕ) (s : List ℕ) → is_line_end b ≡ false → lines_of (b ∷ s) ≡ begun b (lines_of s)
unfolding lines_of
plain_first b s h =
    let go = elim (b == 13) as (λ v. (v || b == 10) ≡ false → cond (v && is_at_line_feed s) (lines_of s) (cond (v || b == 10) ([] ∷ lines_of s) (begun b (lines_of s))) ≡ begun b (lines_of s)) [
      | true ↦ λ h. cc h
      | false ↦ λ h. rw h refl
    ] in go h

-- the end of a line
pub end_first : (b : ℕ) (s : List ℕ) → is_line_end b ≡ true → (b == 13 && is_at_line_feed s) ≡ false → lines_of (b ∷ s) ≡ [] ∷ lines_of s
unfolding lines_of
end_first b s h k = rw (k, h) refl

pub end_pair : (s : List ℕ) → lines_of (13 ∷ 10 ∷ s) ≡ [] ∷ lines_of s
unfolding lines_of
end_pair s = refl

pub split_and : (a b : Bool) (P : Type 0) → (a && b) ≡ true → (a ≡ true → b ≡ true → P) → P
split_and true b P h k = k refl h
split_and false b P h k = absurd (cc h)

pub not_true : (a : Bool) → not a ≡ true → a ≡ false
not_true true h = cc h
not_true false h = refl

-- a line and its end
pub line_before : (s r : List ℕ) (n : ℕ) → has_no_end (take n s) ≡ true → lines_of (drop n s) ≡ [] ∷ lines_of r → lines_of s ≡ take n s ∷ lines_of r
line_before s r zero h e = e
line_before [] r (suc n) h e = e
line_before (b ∷ s) r (suc n) h e =
    split_and (not (is_line_end b)) (has_no_end (take n s)) (lines_of (b ∷ s) ≡ take (suc n) (b ∷ s) ∷ lines_of r) h (λ first rest.
    plain_first b s (not_true (is_line_end b) first) ∙ ap (begun b) (line_before s r n rest e))

-- a last line without its end
pub line_alone : (s : List ℕ) → has_no_end s ≡ true → 0 < length s → lines_of s ≡ s ∷ []
unfolding lines_of
line_alone [] h l = absurd (omega arith)
line_alone (b ∷ []) h l = split_and (not (is_line_end b)) true (lines_of (b ∷ []) ≡ (b ∷ []) ∷ []) h (λ first _. plain_first b [] (not_true (is_line_end b) first))
line_alone (b ∷ c ∷ s) h l =
    split_and (not (is_line_end b)) (has_no_end (c ∷ s)) (lines_of (b ∷ c ∷ s) ≡ (b ∷ c ∷ s) ∷ []) h (λ first rest.
    plain_first b (c ∷ s) (not_true (is_line_end b) first) ∙ ap (begun b) (line_alone (c ∷ s) rest (omega arith)))

cr_alone : (s : List ℕ) → is_at_line_feed s ≡ false → lines_of (13 ∷ s) ≡ [] ∷ lines_of s
unfolding lines_of
cr_alone s h = rw h refl

cr_feed : (s : List ℕ) → is_at_line_feed s ≡ true → lines_of (13 ∷ s) ≡ lines_of s
unfolding lines_of
cr_feed s h = rw h refl

-- behind CR, with or without LF
pub behind_return : (s r : List ℕ) → (is_at_line_feed s ≡ true → lines_of s ≡ [] ∷ lines_of r) → (is_at_line_feed s ≡ false → r ≡ s) → lines_of (13 ∷ s) ≡ [] ∷ lines_of r
behind_return s r feed other =
    let go = elim (is_at_line_feed s) as (λ v. is_at_line_feed s ≡ v → lines_of (13 ∷ s) ≡ [] ∷ lines_of r) [
      | true ↦ λ h. cr_feed s h ∙ feed h
      | false ↦ λ h. cr_alone s h ∙ ap (λ x. [] ∷ lines_of x) (sym (other h))
    ] in go refl

-- behind LF
pub behind_other : (b : ℕ) (s : List ℕ) → is_line_end b ≡ true → (b == 13) ≡ false → lines_of (b ∷ s) ≡ [] ∷ lines_of s
behind_other b s h k = end_first b s h (rw k refl)

-- LF
pub at_feed : (s : List ℕ) → lines_of (10 ∷ s) ≡ [] ∷ lines_of s
unfolding lines_of
at_feed s = refl

no_lines : lines_of [] ≡ []
unfolding lines_of
no_lines = refl

-- a line and what stands behind it, where the line ends with its end or with the text
pub line_cut : (s r : List ℕ) (n : ℕ) → n ≤ length s → 0 < length s → has_no_end (take n s) ≡ true
    → (n < length s → lines_of (drop n s) ≡ [] ∷ lines_of r) → (length s ≤ n → r ≡ []) → lines_of s ≡ take n s ∷ lines_of r
line_cut s r n le some plain end none = elim (cases_lt n (length s)) [
  | inl lt ↦ line_before s r n plain (end lt)
  | inr ge ↦
      let whole : take n s ≡ s = take_all n s ge in
      let plain_all : has_no_end s ≡ true = rw (← whole) plain in
      line_alone s plain_all some ∙ ap (λ x. s ∷ x) (sym (ap lines_of (none ge) ∙ no_lines)) ∙ ap (λ x. x ∷ lines_of r) (sym whole)
]

-- the same by what is known of the first line's length
pub cut_at : (s rest r : List ℕ) (n : ℕ) → n ≤ length s → 0 < length s → has_no_end (take n s) ≡ true → (n < length s → is_line_end (slice_index s n) ≡ true)
    → rest ≡ drop n s → (is_line_end (slice_index rest 0) ≡ true → lines_of rest ≡ [] ∷ lines_of r) → (length rest ≡ 0 → r ≡ []) → lines_of s ≡ take n s ∷ lines_of r
cut_at s rest r n le some plain here e end none =
    let first : slice_index rest 0 ≡ slice_index s n = ap (λ x. slice_index x 0) e ∙ get_or-drop n s 0 0 ∙ ap (slice_index s) (add-zero n) in
    line_cut s r n le some plain
    (λ lt. ap lines_of (sym e) ∙ end (ap is_line_end first ∙ here lt))
    (λ ge. none (ap length e ∙ ap length (drop_all n s ge)))

pub no_lines_of : (s : List ℕ) → length s ≡ 0 → lines_of s ≡ []
no_lines_of [] h = no_lines
no_lines_of (b ∷ s) h = absurd (omega arith)
