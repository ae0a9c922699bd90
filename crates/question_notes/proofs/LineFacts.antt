-- Texts cut at a byte, and the lines of a text with more behind it.
use Rattle.std.proofs.Common.{◌≡◌, ℕ, ◌==◌, List, [], ◌∷◌, ◌++◌, Bool, true, false, cond, not, Option, Some, None, option_map, Result, Ok, Err, ok_or, refl, sym, ap, ◌∙◌}
use Rattle.std.specs.List.{list_all}
use Rattle.foundation.specs.Steps.{◌>>=◌}
use Rattle.command_files.specs.Lines.{cut_of, begun, lines_of, counted, folded_of, text_folded_of}
use Rattle.command_files.specs.declared.usage_fault.UsageFault.{UsageFault}
use Rattle.command_files.specs.declared.usage_fault.UsageFault.TheVariants.{Usage}
use Rattle.question_notes.proofs.FieldFacts.{left_of, right_of, not_true}

abbrev pub lacks : ℕ → List ℕ → Bool
lacks at s = list_all (λ b. not (b == at)) s

abbrev Parts : Type 0
Parts = List ℕ × List ℕ

abbrev later : ℕ → Option Parts → Option Parts
later b o = option_map (λ parts. (b ∷ parts.0, parts.1)) o

-- what stands before the first such byte, and behind it
pub cut_front : (at : ℕ) → (at == at) ≡ true → (front back : List ℕ) → lacks at front ≡ true → cut_of at (front ++ at ∷ back) ≡ Some (front, back)
cut_front at same [] back h = rw same refl
cut_front at same (b ∷ front) back h =
    let other : (b == at) ≡ false = not_true (b == at) (left_of _ _ h) in
    rw other (ap (later b) (cut_front at same front back (right_of (not (b == at)) _ h)))

-- ---- a text with more behind it

abbrev Lines : Type 0
Lines = Option (List (List ℕ))

abbrev behind : List (List ℕ) → Lines → Lines
behind ls o = option_map (λ ms. ls ++ ms) o

behind_none : (o : Lines) → behind [] o ≡ o
behind_none None = refl
behind_none (Some ms) = refl

fed : (ls ms : List (List ℕ)) (o : Lines) → Some ([] ∷ ms) ≡ Some ls → option_map (λ lines. [] ∷ lines) (behind ms o) ≡ behind ls o
fed ls ms None e = refl
fed ls ms (Some ns) e = let same : [] ∷ ms ≡ ls = cc in ap (λ l. Some (l ++ ns)) same

begun_behind : (x : ℕ) (l : List ℕ) (ls ms : List (List ℕ)) (o : Lines) → Some ((x ∷ l) ∷ ms) ≡ Some ls → begun x (behind (l ∷ ms) o) ≡ behind ls o
begun_behind x l ls ms None e = refl
begun_behind x l ls ms (Some ns) e = let same : (x ∷ l) ∷ ms ≡ ls = cc in ap (λ k. Some (k ++ ns)) same

feed_more : (ls : List (List ℕ)) (o both more : Lines) → option_map (λ lines. [] ∷ lines) o ≡ Some ls
    → ((ms : List (List ℕ)) → o ≡ Some ms → both ≡ behind ms more) → option_map (λ lines. [] ∷ lines) both ≡ behind ls more
feed_more ls None both more e h = cc e
feed_more ls (Some ms) both more e h = ap (option_map (λ lines. [] ∷ lines)) (h ms refl) ∙ fed ls ms more e

begun_more : (x : ℕ) (ls : List (List ℕ)) (o both more : Lines) → begun x o ≡ Some ls
    → ((ms : List (List ℕ)) → o ≡ Some ms → both ≡ behind ms more) → begun x both ≡ behind ls more
begun_more x ls None both more e h = cc e
begun_more x ls (Some []) both more e h = cc e
begun_more x ls (Some (l ∷ ms)) both more e h = ap (begun x) (h (l ∷ ms) refl) ∙ begun_behind x l ls ms more e

-- what is behind a text has its lines behind those of the text
pub lines_more : (a b : List ℕ) (ls : List (List ℕ)) → lines_of a ≡ Some ls → lines_of (a ++ b) ≡ behind ls (lines_of b)
lines_more [] b ls e = let none : [] ≡ ls = cc in sym (behind_none (lines_of b)) ∙ ap (λ k. behind k (lines_of b)) none
lines_more (x ∷ a) b ls e =
    let go = elim (x == 10) as (λ v. cond v (option_map (λ lines. [] ∷ lines) (lines_of a)) (begun x (lines_of a)) ≡ Some ls
    → cond v (option_map (λ lines. [] ∷ lines) (lines_of (a ++ b))) (begun x (lines_of (a ++ b))) ≡ behind ls (lines_of b)) [
      | true ↦ λ e. feed_more ls (lines_of a) (lines_of (a ++ b)) (lines_of b) e (λ ms h. lines_more a b ms h)
      | false ↦ λ e. begun_more x ls (lines_of a) (lines_of (a ++ b)) (lines_of b) e (λ ms h. lines_more a b ms h)
    ] in go e

module _ {S : Type 0} (takes : S → List ℕ → Result S UsageFault) where
  then_folds : (r : Result S UsageFault) (ls ms : List (List ℕ)) → ((s : S) → folded_of takes s (ls ++ ms) ≡ (folded_of takes s ls >>= λ t. folded_of takes t ms))
      → (r >>= λ next. folded_of takes next (ls ++ ms)) ≡ ((r >>= λ next. folded_of takes next ls) >>= λ t. folded_of takes t ms)
  then_folds (Ok s) ls ms h = h s
  then_folds (Err e) ls ms h = refl

  folds_more : (ls ms : List (List ℕ)) (s : S) → folded_of takes s (ls ++ ms) ≡ (folded_of takes s ls >>= λ t. folded_of takes t ms)
  folds_more [] ms s = refl
  folds_more (l ∷ ls) ms s = then_folds (counted takes s l) ls ms (λ t. folds_more ls ms t)

  folds_behind : (s t : S) (ls : List (List ℕ)) (o : Lines) → folded_of takes s ls ≡ Ok t
      → (ok_or (behind ls o) Usage >>= folded_of takes s) ≡ (ok_or o Usage >>= folded_of takes t)
  folds_behind s t ls None e = refl
  folds_behind s t ls (Some ms) e = folds_more ls ms s ∙ ap (λ r. r >>= λ t. folded_of takes t ms) e

  folds_text : (s t : S) (o : Lines) (both more : Lines) → (ok_or o Usage >>= folded_of takes s) ≡ Ok t
      → ((ls : List (List ℕ)) → o ≡ Some ls → both ≡ behind ls more) → (ok_or both Usage >>= folded_of takes s) ≡ (ok_or more Usage >>= folded_of takes t)
  folds_text s t None both more e h = cc e
  folds_text s t (Some ls) both more e h = ap (λ o. ok_or o Usage >>= folded_of takes s) (h ls refl) ∙ folds_behind s t ls more e

  -- what is behind a text is taken after it
  pub folded_behind : (s t : S) (a b : List ℕ) → text_folded_of takes s a ≡ Ok t → text_folded_of takes s (a ++ b) ≡ text_folded_of takes t b
  folded_behind s t a b e = folds_text s t (lines_of a) (lines_of (a ++ b)) (lines_of b) e (λ ls h. lines_more a b ls h)
