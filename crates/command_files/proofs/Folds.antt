-- The lines of a text, taken one by one.
use Rattle.std.proofs.Common.{◌≡◌, ◌≢◌, ℕ, ◌<◌, List, [], ◌∷◌, length, true, false, cond, ◌==◌, Option, Some, None, option_map, Result, Ok, Err, ok_or, refl, ap, ◌∙◌, arith}
use Rattle.foundation.specs.Steps.{◌>>=◌}
use Rattle.command_files.specs.Lines.{cut_of, begun, lines_of, counted, folded_of, text_folded_of}
use Rattle.command_files.specs.declared.usage_fault.UsageFault.{UsageFault}
use Rattle.command_files.specs.declared.usage_fault.UsageFault.TheVariants.{Usage, NoMemory}

abbrev Parts : Type 0
Parts = List ℕ × List ℕ

abbrev Lines : Type 0
Lines = Option (List (List ℕ))

abbrev pair : List ℕ → List ℕ → Option Parts
pair front back = Some (front, back)

abbrev later : ℕ → Option Parts → Option Parts
later b o = option_map (λ parts. (b ∷ parts.0, parts.1)) o

abbrev front_of : Option Parts → List ℕ
front_of None = []
front_of (Some parts) = parts.0

abbrev back_of : Option Parts → List ℕ
back_of None = []
back_of (Some parts) = parts.1

-- a line and those behind it
abbrev first_then : List ℕ → Lines → Lines
first_then line rest = option_map (λ lines. line ∷ lines) rest

begun_first : (b : ℕ) (line : List ℕ) (rest : Lines) → begun b (first_then line rest) ≡ first_then (b ∷ line) rest
begun_first b line None = refl
begun_first b line (Some lines) = refl

-- behind a byte that is no line feed
grown : (b : ℕ) (bs line next : List ℕ) (o : Option Parts) → ((l n : List ℕ) → o ≡ pair l n → lines_of bs ≡ first_then l (lines_of n))
    → later b o ≡ pair line next → begun b (lines_of bs) ≡ first_then line (lines_of next)
grown b bs line next None h e = cc
grown b bs line next (Some parts) h e =
    let whole : lines_of bs ≡ first_then parts.0 (lines_of parts.1) = h parts.0 parts.1 refl in
    let front : b ∷ parts.0 ≡ line = ap front_of e in
    let back : parts.1 ≡ next = ap back_of e in
    ap (begun b) whole ∙ begun_first b parts.0 (lines_of parts.1) ∙ ap (λ l. first_then l (lines_of parts.1)) front ∙ ap (λ n. first_then line (lines_of n)) back

-- a line is cut off
pub lines_cut : (s line next : List ℕ) → cut_of 10 s ≡ pair line next → lines_of s ≡ first_then line (lines_of next)
lines_cut [] line next e = cc
lines_cut (b ∷ bs) line next e =
    let go = elim (b == 10) as (λ v. cond v (pair [] bs) (later b (cut_of 10 bs)) ≡ pair line next → cond v (first_then [] (lines_of bs)) (begun b (lines_of bs)) ≡ first_then line (lines_of next)) [
      | true ↦ λ e.
          let front : [] ≡ line = ap front_of e in
          let back : bs ≡ next = ap back_of e in
          ap (λ l. first_then l (lines_of bs)) front ∙ ap (λ n. first_then line (lines_of n)) back
      | false ↦ λ e. grown b bs line next (cut_of 10 bs) (λ l n h. lines_cut bs l n h) e
    ] in go e

shorter : (at b : ℕ) (bs line next : List ℕ) (o : Option Parts) → ((l n : List ℕ) → o ≡ pair l n → length n < length bs) → later b o ≡ pair line next → length next < length (b ∷ bs)
shorter at b bs line next None h e = cc
shorter at b bs line next (Some parts) h e =
    let less : length parts.1 < length bs = h parts.0 parts.1 refl in
    let back : length parts.1 ≡ length next = ap (λ o. length (back_of o)) e in
    omega arith

-- what stands behind the byte is shorter than the whole
pub cut_shorter : (at : ℕ) (s line next : List ℕ) → cut_of at s ≡ pair line next → length next < length s
cut_shorter at [] line next e = cc
cut_shorter at (b ∷ bs) line next e =
    let go = elim (b == at) as (λ v. cond v (pair [] bs) (later b (cut_of at bs)) ≡ pair line next → length next < length (b ∷ bs)) [
      | true ↦ λ e. let back : length bs ≡ length next = ap (λ o. length (back_of o)) e in omega arith
      | false ↦ λ e. shorter at b bs line next (cut_of at bs) (λ l n h. cut_shorter at bs l n h) e
    ] in go e

uncut : (b : ℕ) (bs : List ℕ) (o : Option Parts) → (o ≡ None → 0 < length bs → lines_of bs ≡ None) → later b o ≡ None → (bs ≡ [] → lines_of bs ≡ Some []) → begun b (lines_of bs) ≡ None
uncut b [] None h e empty = refl
uncut b (x ∷ xs) None h e empty = ap (begun b) (h refl (omega arith))
uncut b bs (Some parts) h e empty = cc

-- a text without a line feed has no lines
pub lines_uncut : (s : List ℕ) → cut_of 10 s ≡ None → 0 < length s → lines_of s ≡ None
lines_uncut [] e h = absurd (omega arith)
lines_uncut (b ∷ bs) e h =
    let go = elim (b == 10) as (λ v. cond v (pair [] bs) (later b (cut_of 10 bs)) ≡ None → cond v (first_then [] (lines_of bs)) (begun b (lines_of bs)) ≡ None) [
      | true ↦ λ e. cc
      | false ↦ λ e. uncut b bs (cut_of 10 bs) (λ o h. lines_uncut bs o h) e (λ o. ap lines_of o)
    ] in go e

folded_first : {S : Type 0} (takes : S → List ℕ → Result S UsageFault) (a b : S) (line : List ℕ) (rest : Lines)
    → counted takes a line ≡ Ok b → (ok_or (first_then line rest) Usage >>= folded_of takes a) ≡ (ok_or rest Usage >>= folded_of takes b)
folded_first takes a b line None e = refl
folded_first takes a b line (Some lines) e = ap (λ r. r >>= λ next. folded_of takes next lines) e

refused_first : {S : Type 0} (takes : S → List ℕ → Result S UsageFault) (a : S) (line : List ℕ) (rest : Lines)
    → counted takes a line ≡ Err Usage → (ok_or (first_then line rest) Usage >>= folded_of takes a) ≡ Err Usage
refused_first takes a line None e = refl
refused_first takes a line (Some lines) e = ap (λ r. r >>= λ next. folded_of takes next lines) e

-- a line was taken
pub folded_more : {S : Type 0} (takes : S → List ℕ → Result S UsageFault) (a b : S) (s line next : List ℕ)
    → cut_of 10 s ≡ Some (line, next) → counted takes a line ≡ Ok b → text_folded_of takes a s ≡ text_folded_of takes b next
folded_more takes a b s line next e h = ap (λ ls. ok_or ls Usage >>= folded_of takes a) (lines_cut s line next e) ∙ folded_first takes a b line (lines_of next) h

-- a line was refused
pub folded_refused : {S : Type 0} (takes : S → List ℕ → Result S UsageFault) (a : S) (s line next : List ℕ) (e : UsageFault)
    → cut_of 10 s ≡ Some (line, next) → (e ≢ NoMemory → counted takes a line ≡ Err e) → e ≢ NoMemory → text_folded_of takes a s ≡ Err e
folded_refused takes a s line next Usage c h n = ap (λ ls. ok_or ls Usage >>= folded_of takes a) (lines_cut s line next c) ∙ refused_first takes a line (lines_of next) (h n)
folded_refused takes a s line next NoMemory c h n = absurd (n refl)

-- what is left has no line feed
pub folded_uncut : {S : Type 0} (takes : S → List ℕ → Result S UsageFault) (a : S) (s : List ℕ)
    → cut_of 10 s ≡ None → 0 < length s → text_folded_of takes a s ≡ Err Usage
folded_uncut takes a s c h = ap (λ ls. ok_or ls Usage >>= folded_of takes a) (lines_uncut s c h)

pub folded_empty : {S : Type 0} (takes : S → List ℕ → Result S UsageFault) (a : S) (s : List ℕ) → length s ≡ 0 → text_folded_of takes a s ≡ Ok a
folded_empty takes a [] h = refl
folded_empty takes a (x ∷ xs) h = absurd (omega arith)
