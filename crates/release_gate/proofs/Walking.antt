-- The walk over a folder: its names in order, and its lines one after the other.
use Rattle.std.proofs.Common.{◌≡◌, ◌⊎◌, inl, inr, ℕ, ◌+◌, ◌<◌, ◌≤◌, List, [], ◌∷◌, ◌++◌, Bool, true, false, cond, length, take, get_or, Option, Some, None, Less, bytes_eq, refl, sym, ap, subst, ◌∙◌, arith, le_trans}
use Rattle.std.specs.Prelude.{Contains, filter_map, IfOk, IfErr, Result, Ok, Err}
use Rattle.std.specs.List.{cons_option}
use Rattle.std.specs.List.Sorted.{IsSorted, IsStrictlySortedBy, IsPermutation}
use Rattle.std.proofs.lemmas.List.{take_more}
use Rattle.std.proofs.lemmas.List.Elements.{filter_map-append}
use Rattle.std.proofs.lemmas.List.Sorted.{IsPermutation-sym, Contains-permutation, sum_by-IsPermutation}
use Rattle.std.proofs.lemmas.List.Sums.{sum_by-cons}
use Rattle.std.proofs.lemmas.Slice.Eq.{bytes_eq-Decides}
use Rattle.std.proofs.lemmas.Bool.{cases_lt}
use Rattle.foundation.specs.Watched.{Watched, IfTold, Since}
use Rattle.sigstore_types_parts.specs.Entries.{text_cmp}
use Rattle.release_gate.specs.declared.line.GateLine.{GateLine}
use Rattle.release_gate.specs.declared.line.Verdict.{Verdict}
use Rattle.release_gate.specs.declared.walk.FolderStop.{FolderStop}
use Rattle.release_gate.specs.declared.walk.FolderStop.TheVariants as stop
use Rattle.release_gate.specs.Folder.{Contents, ListsFiles}
use Rattle.release_gate.specs.Lines.{AreLines, line_of}
use Rattle.release_gate.specs.Names.{is_bundle, max_names, times_in, IsFirstDoubled, AreOrdered}
use Rattle.release_gate.specs.Walk.{JudgingBeside, StopCause, IsInOrder, IsJudged, JudgesFolder}
use Rattle.release_gate.proofs.Lining.{among_of, all_among, line_there, are_lines}
use Rattle.release_gate.proofs.Order.{never_below_itself, counted}

-- ---- names in order

same_times : (listed names : List (List ℕ)) → IsPermutation listed names → (name : List ℕ) → times_in names name ≡ times_in listed name
same_times listed names moved name = sum_by-IsPermutation (λ other. cond (bytes_eq other name) 1 0) listed names moved

strict_once : (names : List (List ℕ)) → IsStrictlySortedBy text_cmp names → (name : List ℕ) → 1 < times_in names name → ⊥
unfolding IsStrictlySortedBy
strict_once [] up name h = absurd (omega arith)
strict_once (x ∷ xs) up name h = by_test (bytes_eq x name) refl (rw (sum_by-cons (λ other. cond (bytes_eq other name) 1 0) x xs) at h) (strict_once xs up.1 name)
  where
    by_test : (b : Bool) → bytes_eq x name ≡ b → 1 < cond (bytes_eq x name) 1 0 + times_in xs name → (1 < times_in xs name → ⊥) → ⊥
    by_test true e h rest =
        let k : 1 < 1 + times_in xs name = rw e at h in
        let s = counted name xs (omega arith) in
        let below : text_cmp x name ≡ Less = all_among (λ y. text_cmp x y ≡ Less) name xs up.0 (among_of name xs (s.at, s.within, s.is name)) in
        never_below_itself name (subst (λ t. text_cmp t name ≡ Less) ((bytes_eq-Decides x name).0 e) below)
    by_test false e h rest = let k : 1 < 0 + times_in xs name = rw e at h in rest (omega arith)

not_more : (n : ℕ) → (1 < n → ⊥) → n ≤ 1
not_more n h = by_case (cases_lt 1 n)
  where
    by_case : (1 < n) ⊎ (n ≤ 1) → n ≤ 1
    by_case (inl more) = absurd (h more)
    by_case (inr less) = less

pub in_order : (listed names : List (List ℕ)) → length listed ≤ max_names → IsPermutation listed names → IsSorted text_cmp names → IsStrictlySortedBy text_cmp names
    → IsInOrder listed names
in_order listed names few moved sorted up = record {
  few = few;
  once = λ name. not_more (times_in listed name) (λ twice. strict_once names up name (rw (same_times listed names moved name) twice));
  sorted = sorted;
  ordered = record {
    ascend = up;
    same = λ name. (Contains-permutation listed names name moved, Contains-permutation names listed name (IsPermutation-sym listed names moved));
  };
}

pub doubled_listed : (listed names : List (List ℕ)) (name : List ℕ) → IsPermutation listed names → IsFirstDoubled names name → IsFirstDoubled listed name
doubled_listed listed names name moved d = record {
  twice = rw (same_times listed names moved name) at d.twice;
  first = λ other twice. d.first other (rw (same_times listed names moved other) twice);
}

-- ---- what a folder tells, and how often it failed, at one moment and later

pub told_kept : (old new : Watched Contents) (P : Contents → Type 0) → Since old new → IfTold old.told P → IfTold new.told P
told_kept old new P since told = subst (λ t. IfTold t P) (sym since.same) told

pub told_before : (old new : Watched Contents) (P : Contents → Type 0) → Since old new → IfTold new.told P → IfTold old.told P
told_before old new P since told = subst (λ t. IfTold t P) since.same told

pub since_both : (old mid new : Watched Contents) → Since old mid → Since mid new → Since old new
since_both old mid new a b = record { same = b.same ∙ a.same; later = le_trans a.later b.later }

pub cause_before : (old mid new : Watched Contents) (e : FolderStop) → Since old mid → StopCause mid new e → StopCause old new e
cause_before old mid new stop.Failed since cause = let later = since.later in omega (arith, cause)
cause_before old mid new (stop.TooMany count) since cause = (cause.0, told_before old mid _ since cause.1)
cause_before old mid new (stop.Doubled name) since cause = told_before old mid _ since cause
cause_before old mid new (stop.Vanished name) since cause = (cause.0, told_before old mid _ since cause.1)
cause_before old mid new stop.NoMemory since cause = tt

-- ---- a line more

one_line : (told : Option Contents) (judging : JudgingBeside) (names : List (List ℕ)) (i : ℕ) (d : List ℕ) (lines more : List GateLine) → i < length names
    → IfTold told (λ contents. lines ≡ filter_map (line_of (judging contents.files) contents.files) (take i names))
    → IfTold told (λ contents. more ≡ lines ++ cons_option (line_of (judging contents.files) contents.files (get_or names i d)) [])
    → IfTold told (λ contents. more ≡ filter_map (line_of (judging contents.files) contents.files) (take (i + 1) names))
one_line None judging names i d lines more lt was is = tt
one_line (Some contents) judging names i d lines more lt was is =
    let line = line_of (judging contents.files) contents.files in
    is ∙ ap (λ ls. ls ++ cons_option (line (get_or names i d)) []) was
    ∙ sym (filter_map-append line (take i names) (get_or names i d ∷ []))
    ∙ ap (filter_map line) (sym (take_more names i d lt))

pub line_more : (old mid : Watched Contents) (judging : JudgingBeside) (names : List (List ℕ)) (i : ℕ) (d : List ℕ) (lines more : List GateLine) → i < length names → Since old mid
    → IfTold old.told (λ contents. lines ≡ filter_map (line_of (judging contents.files) contents.files) (take i names))
    → IfTold mid.told (λ contents. more ≡ lines ++ cons_option (line_of (judging contents.files) contents.files (get_or names i d)) [])
    → IfTold old.told (λ contents. more ≡ filter_map (line_of (judging contents.files) contents.files) (take (i + 1) names))
line_more old mid judging names i d lines more lt since was is = one_line old.told judging names i d lines more lt was (told_before old mid _ since is)

-- the line on an artifact that was judged
pub line_added : (told : Option Contents) (judging : JudgingBeside) (names : List (List ℕ)) (name : List ℕ) (verdict : Verdict) (lines more : List GateLine)
    → IfTold told ListsFiles → IfTold told (λ contents. AreOrdered contents.names names) → Contains names name → is_bundle name ≡ false
    → IfTold told (λ contents. (bytes : List ℕ) → contents.files name ≡ Some bytes → verdict ≡ judging contents.files name bytes)
    → more ≡ lines ++ record { name = name; verdict = verdict } ∷ []
    → IfTold told (λ contents. more ≡ lines ++ cons_option (line_of (judging contents.files) contents.files name) [])
line_added None judging names name verdict lines more law order among t given is = tt
line_added (Some contents) judging names name verdict lines more law order among t given is =
    let held = law.held name ((order.same name).1 among) in
    let there = line_there (judging contents.files) contents.files name held.0 t held.1 in
    let with_verdict : Verdict → List GateLine = λ v. lines ++ record { name = name; verdict = v } ∷ [] in
    is ∙ ap with_verdict (given held.0 held.1) ∙ ap (λ o. lines ++ cons_option o []) (sym there)

pub no_lines : (told : Option Contents) (judging : JudgingBeside) (names : List (List ℕ)) (lines : List GateLine) → lines ≡ []
    → IfTold told (λ contents. lines ≡ filter_map (line_of (judging contents.files) contents.files) (take 0 names))
no_lines None judging names lines e = tt
no_lines (Some contents) judging names lines e = e

-- ---- the whole

judged_told : (told : Option Contents) (judging : JudgingBeside) (names : List (List ℕ)) (lines : List GateLine) → IfTold told ListsFiles → IfTold told (λ contents. IsInOrder contents.names names)
    → IfTold told (λ contents. lines ≡ filter_map (line_of (judging contents.files) contents.files) names) → IfTold told (λ contents. IsJudged judging contents lines)
judged_told None judging names lines law order is = tt
judged_told (Some contents) judging names lines law order is = record {
  few = order.few;
  once = order.once;
  are = subst (AreLines (judging contents.files) contents.files) (sym is)
      (are_lines (judging contents.files) contents.files names order.ordered.ascend (λ name bytes f. (order.ordered.same name).0 (law.listed name bytes f)));
}

pub folder_judged : (old mid new : Watched Contents) (judging : JudgingBeside) (names : List (List ℕ)) (result : Result (List GateLine) FolderStop) → IfTold old.told ListsFiles → Since old mid → Since mid new
    → IfTold old.told (λ contents. IsInOrder contents.names names)
    → IfOk result (λ lines. IfTold mid.told (λ contents. lines ≡ filter_map (line_of (judging contents.files) contents.files) names)) → IfErr result (StopCause mid new)
    → JudgesFolder judging old new result
folder_judged old mid new judging names (Ok lines) law a b order is refused = record {
  since = since_both old mid new a b;
  given = judged_told old.told judging names lines law order (told_before old mid _ a is);
  refused = tt;
}
folder_judged old mid new judging names (Err e) law a b order is refused = record {
  since = since_both old mid new a b;
  given = tt;
  refused = cause_before old mid new e a refused;
}
