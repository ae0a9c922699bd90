-- The cases of a visit that is made.
use Rattle.std.proofs.Common.{◌≡◌, ℕ, ◌==◌, ◌||◌, if◌then◌else◌, List, [], ◌∷◌, ◌++◌, Bool, true, false, Option, Some, None, Ok, bytes_eq, refl, sym, ap, ◌∙◌}
use Rattle.std.specs.Prelude.{ok_or}
use Rattle.std.proofs.lemmas.Slice.Eq.{bytes_eq-Decides}
use Rattle.foundation.specs.Steps.{◌>>=◌}
use Rattle.foundation.specs.Results.{step_ok, ok_same}
use Rattle.sigstore_tuf_parts.specs.declared.snapshot.Snapshot.{Snapshot}
use Rattle.sigstore_tuf_parts.specs.declared.targets.Targets.{Targets}
use Rattle.sigstore_tuf_parts.specs.Threshold.{is_among}
use Rattle.sigstore_tuf_rules.specs.Order.{Visit, Tree, missing, Walk, Next, Step, ended, visited, having_read, is_pinned, lists, matching, delegated_in, still, read_of, read_named, visit_of}

-- ---- names that were read

pub among_append : (xs : List (List ℕ)) (y name : List ℕ) → is_among xs name ≡ true → is_among (xs ++ y ∷ []) name ≡ true
among_append [] y name h = cc
among_append (x ∷ xs) y name h = by_first (bytes_eq x name) h (λ k. among_append xs y name k)
  where
    by_first : (b : Bool) → (b || is_among xs name) ≡ true → (is_among xs name ≡ true → is_among (xs ++ y ∷ []) name ≡ true) → (b || is_among (xs ++ y ∷ []) name) ≡ true
    by_first true h later = refl
    by_first false h later = later h

pub among_last : (xs : List (List ℕ)) (name : List ℕ) → is_among (xs ++ name ∷ []) name ≡ true
among_last [] name = ap (λ b. b || false) ((bytes_eq-Decides name name).1 refl)
among_last (x ∷ xs) name = by_first (bytes_eq x name) (among_last xs name)
  where
    by_first : (b : Bool) → is_among (xs ++ name ∷ []) name ≡ true → (b || is_among (xs ++ name ∷ []) name) ≡ true
    by_first true later = refl
    by_first false later = later

-- a name that was read now, or before
pub among_either : {C : Type 0} (xs : List (List ℕ)) (y name : List ℕ) → is_among (xs ++ y ∷ []) name ≡ true → (is_among xs name ≡ true → C) → (name ≡ y → C) → C
among_either {C} [] y name h before now = by_test (bytes_eq y name) refl h
  where
    by_test : (b : Bool) → bytes_eq y name ≡ b → (b || false) ≡ true → C
    by_test true e h = now (sym ((bytes_eq-Decides y name).0 e))
    by_test false e h = cc
among_either {C} (x ∷ xs) y name h before now = by_test (bytes_eq x name) refl h (λ k f. among_either xs y name k f now)
  where
    by_test : (b : Bool) → bytes_eq x name ≡ b → (b || is_among (xs ++ y ∷ []) name) ≡ true → (is_among (xs ++ y ∷ []) name ≡ true → (is_among xs name ≡ true → C) → C) → C
    by_test true e h later = before (ap (λ b. b || is_among xs name) e)
    by_test false e h later = later h (λ k. before (ap (λ b. b || is_among xs name) e ∙ k))

-- ---- the cases

abbrev pub is_over : Visit → Walk → Bool
is_over v w = (w.left == 0) || is_among w.read v.name

pub data StepOf (snapshot : Snapshot) (path : List ℕ) (o : Option Targets) (v : Visit) (w : Walk) (step : Step) : Type 0 where
  passed_over : is_over v w ≡ true → step ≡ still w → StepOf snapshot path o v w step
  unpinned : is_over v w ≡ false → is_pinned snapshot v.name ≡ false → step ≡ still (visited v w) → StepOf snapshot path o v w step
  listing : (doc : Targets) → is_over v w ≡ false → is_pinned snapshot v.name ≡ true → o ≡ Some doc → lists doc path ≡ true → step ≡ still (ended (having_read v.name (visited v w))) → StepOf snapshot path o v w step
  followed : (doc : Targets) (next : Next) → is_over v w ≡ false → is_pinned snapshot v.name ≡ true → o ≡ Some doc → lists doc path ≡ false → matching path (delegated_in doc.delegations) ≡ Ok next
      → step ≡ record { walk = having_read v.name (visited v w); next = next } → StepOf snapshot path o v w step

module _ (tree : Tree) (v : Visit) (w : Walk) where
  abbrev Cases : Step → Type 0
  Cases step = StepOf tree.snapshot tree.path (tree.documents v.name) v w step

  read_step : (doc : Targets) (step : Step) → is_over v w ≡ false → is_pinned tree.snapshot v.name ≡ true → tree.documents v.name ≡ Some doc → read_of tree doc (having_read v.name (visited v w)) ≡ Ok step → Cases step
  read_step doc step on pinned there h = by_list (lists doc tree.path) refl h
    where
      by_list : (b : Bool) → lists doc tree.path ≡ b
          → (if b then Ok (still (ended (having_read v.name (visited v w)))) else matching tree.path (delegated_in doc.delegations) >>= λ next. Ok (record { walk = having_read v.name (visited v w); next = next })) ≡ Ok step → Cases step
      by_list true e h = listing doc on pinned there e (sym (ok_same _ step h))
      by_list false e h =
          let m = step_ok (matching tree.path (delegated_in doc.delegations)) _ step h in
          followed doc m.0 on pinned there e m.1 (sym (ok_same _ step m.2))

  named_step : (o : Option Targets) → tree.documents v.name ≡ o → (step : Step) → is_over v w ≡ false → is_pinned tree.snapshot v.name ≡ true
      → (ok_or o (missing v.name) >>= λ doc. read_of tree doc (having_read v.name (visited v w))) ≡ Ok step → Cases step
  named_step None at step on pinned h = cc
  named_step (Some doc) at step on pinned h = read_step doc step on pinned at h

  pinned_step : (b : Bool) → is_pinned tree.snapshot v.name ≡ b → (step : Step) → is_over v w ≡ false
      → (if b then read_named tree v.name (visited v w) else Ok (still (visited v w))) ≡ Ok step → Cases step
  pinned_step true e step on h = named_step (tree.documents v.name) refl step on e h
  pinned_step false e step on h = unpinned on e (sym (ok_same _ step h))

  open_step : (b : Bool) → is_over v w ≡ b → (step : Step)
      → (if b then Ok (still w) else (if is_pinned tree.snapshot v.name then read_named tree v.name (visited v w) else Ok (still (visited v w)))) ≡ Ok step → Cases step
  open_step true e step h = passed_over e (sym (ok_same _ step h))
  open_step false e step h = pinned_step (is_pinned tree.snapshot v.name) refl step e h

  pub step_cases : (step : Step) → visit_of tree v w ≡ Ok step → Cases step
  step_cases step h = open_step (is_over v w) refl step h

  pub cases_step : (step : Step) → Cases step → visit_of tree v w ≡ Ok step
  cases_step step (passed_over over is) = rw (over, is) refl
  cases_step step (unpinned on pin is) = rw (on, pin, is) refl
  cases_step step (listing doc on pin there l is) = rw (on, pin, there, l, is) refl
  cases_step step (followed doc next on pin there l m is) = rw (on, pin, there, l, m, is) refl

-- ---- other documents

-- what a step does to the names that were read
pub step_reads : (snapshot : Snapshot) (path : List ℕ) (o : Option Targets) (v : Visit) (w : Walk) (step : Step) → StepOf snapshot path o v w step → (name : List ℕ) → is_among w.read name ≡ true → is_among step.walk.read name ≡ true
step_reads snapshot path o v w step (passed_over over is) name h = ap (λ (s : Step). is_among s.walk.read name) is ∙ h
step_reads snapshot path o v w step (unpinned on pin is) name h = ap (λ (s : Step). is_among s.walk.read name) is ∙ h
step_reads snapshot path o v w step (listing doc on pin there l is) name h = ap (λ (s : Step). is_among s.walk.read name) is ∙ among_append w.read v.name name h
step_reads snapshot path o v w step (followed doc next on pin there l m is) name h = ap (λ (s : Step). is_among s.walk.read name) is ∙ among_append w.read v.name name h

-- a document of another map that agrees on the name, where it was read
pub swap_step : (snapshot : Snapshot) (path : List ℕ) (o o' : Option Targets) (v : Visit) (w : Walk) (step : Step) → StepOf snapshot path o v w step → (is_among step.walk.read v.name ≡ true → o' ≡ o) → StepOf snapshot path o' v w step
swap_step snapshot path o o' v w step (passed_over over is) same = passed_over over is
swap_step snapshot path o o' v w step (unpinned on pin is) same = unpinned on pin is
swap_step snapshot path o o' v w step (listing doc on pin there l is) same =
    listing doc on pin (same (ap (λ (s : Step). is_among s.walk.read v.name) is ∙ among_last w.read v.name) ∙ there) l is
swap_step snapshot path o o' v w step (followed doc next on pin there l m is) same =
    followed doc next on pin (same (ap (λ (s : Step). is_among s.walk.read v.name) is ∙ among_last w.read v.name) ∙ there) l m is
