-- The walk over a folder, by what its calls gave.
use Rattle.std.proofs.Common.{◌≡◌, ℕ, ◌+◌, ◌<◌, ◌≤◌, List, [], ◌∷◌, ◌++◌, length, take, drop, get_or, refl, sym, ap, subst, ◌∙◌, add-one, drop-cons, take-append-drop}
use Rattle.std.specs.Prelude.{Result, Ok, Err, IfErr}
use Rattle.std.proofs.lemmas.List.{take_more, take_all}
use Rattle.foundation.specs.Results.{err_same}
use Rattle.release_gate.specs.declared.line.GateLine.{GateLine}
use Rattle.release_gate.specs.declared.line.Verdict.{Verdict}
use Rattle.release_gate.specs.declared.walk.FolderStop.{FolderStop}
use Rattle.release_gate.specs.declared.walk.FolderStop.TheVariants as stop
use Rattle.release_gate.specs.Folder.{Call, names_asked}
use Rattle.release_gate.specs.Names.{is_bundle}
use Rattle.release_gate.specs.Walk.{IsDisordered, Unordered, disordered, Walked, passed, judged, StopsAt, WalksNames, all, stopped, cut, Steps, bundle, line, halted, starved}

-- names that weren't put in order
pub disorders : (D V : Type 0) (gave : D → Call → D → Type 0) (old new : D) (listed : List (List ℕ)) (result : Result V FolderStop) → gave old (names_asked (Ok listed)) new
    → IfErr result (IsDisordered listed) → IfErr result (Unordered gave old new)
disorders D V gave old new listed (Ok names) given h = tt
disorders D V gave old new listed (Err e) given h = disordered listed given h

module _ (D : Type 0) (rests : List ℕ → D → D → Result Verdict FolderStop → Type 0) (old mid new : D) (names : List (List ℕ)) (i : ℕ) (name : List ℕ) (lines lines' : List GateLine)
    (within : i < length names) (is : name ≡ get_or names i name) (walked : Walked rests old (take i names) lines mid) where
  one_more : take i names ++ name ∷ [] ≡ take (i + 1) names
  one_more = ap (λ n. take i names ++ n ∷ []) is ∙ sym (take_more names i name within)

  -- a name more
  pub walked_more : Steps rests mid new name lines lines' (Ok tt) → Walked rests old (take (i + 1) names) lines' new
  walked_more (bundle t same kept r) =
      subst (λ d. Walked rests old (take (i + 1) names) lines' d) (sym same)
      (subst (λ ls. Walked rests old (take (i + 1) names) ls mid) (sym kept)
      (subst (λ ns. Walked rests old ns lines mid) one_more (passed (take i names) lines mid name walked t)))
  walked_more (line verdict t rested grown r) =
      subst (λ ls. Walked rests old (take (i + 1) names) ls new) (sym grown)
      (subst (λ ns. Walked rests old ns (lines ++ record { name = name; verdict = verdict } ∷ []) new) one_more
      (judged (take i names) lines mid new name verdict walked t rested))
  walked_more (halted e t rested r) = cc
  walked_more (starved r) = cc

  split_at : names ≡ take i names ++ name ∷ drop (i + 1) names
  split_at =
      let rest : drop i names ≡ get_or names i name ∷ drop (i + 1) names = rw (add-one, drop-cons names i name) in
      sym (take-append-drop i names) ∙ ap (λ r. take i names ++ r) rest ∙ ap (λ n. take i names ++ n ∷ drop (i + 1) names) (sym is)

  -- the walk stops at a name
  pub walk_stopped : (e : FolderStop) → Steps rests mid new name lines lines' (Err e) → WalksNames rests old new names (Err e)
  walk_stopped e (bundle t same kept r) = cc
  walk_stopped e (line verdict t rested grown r) = cc
  walk_stopped e (halted f t rested r) =
      stopped e (record {
        before = take i names;
        name = name;
        behind = drop (i + 1) names;
        split = split_at;
        lines = lines;
        mid = mid;
        walked = walked;
        artifact = t;
        stopped = subst (λ x. rests name mid new (Err x)) (sym (err_same e f r)) rested;
      }) refl
  walk_stopped e (starved r) = cut (ap Err (err_same e stop.NoMemory r))

-- all names are gone through
pub walked_all : (D : Type 0) (rests : List ℕ → D → D → Result Verdict FolderStop → Type 0) (old new : D) (names : List (List ℕ)) (i : ℕ) (lines : List GateLine)
    → length names ≤ i → Walked rests old (take i names) lines new → WalksNames rests old new names (Ok lines)
walked_all D rests old new names i lines past walked =
    all lines (subst (λ ns. Walked rests old ns lines new) (take_all i names past) walked) refl
