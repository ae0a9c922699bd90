-- A walk over what is pending: what is passed over, and one step.
use Rattle.std.proofs.Common.{◌≡◌, ℕ, ◌-◌, ◌≤◌, ◌==◌, ◌||◌, if◌then◌else◌, List, [], ◌∷◌, ◌++◌, append-nil, Bool, true, false, Option, Some, None, Result, Ok, Err, refl, sym, ap, ◌∙◌, subst, arith}
use Rattle.std.specs.List.{AllByRecursion}
use Rattle.std.proofs.lemmas.List.{append_cancel_left}
use Rattle.foundation.specs.Results.{some_same, ok_same}
use Rattle.foundation.specs.Steps.{◌>>=◌}
use Rattle.sigstore_tuf_parts.specs.Threshold.{is_among}
use Rattle.sigstore_tuf_rules.specs.declared.visit.Visit.{Visit}
use Rattle.sigstore_tuf_rules.specs.declared.visit.Walk.{Walk}
use Rattle.sigstore_tuf_rules.specs.Order.{Tree, Gap, Step, still, visit_of, pending_after, unread_of}
use Rattle.sigstore_tuf_rules.specs.SearchLaws.{walk_all, visits_of}
use Rattle.sigstore_tuf_rules.proofs.Stepping.{is_over, StepOf, passed_over, unpinned, listing, followed, step_cases, cases_step}
use Rattle.sigstore_tuf_rules.proofs.Walks.{by_list}

module _ (max : ℕ) (tree : Tree) where
  abbrev pub Visited : List Visit → Walk → Result (List Visit) Gap
  Visited vs w = visits_of (walk_all max tree vs w)

  -- a step that is made
  pub stepped : (v : Visit) (vs : List Visit) (w : Walk) (step : Step) → w.left ≤ max → visit_of tree v w ≡ Ok step → Visited (v ∷ vs) w ≡ Visited (pending_after v step vs) step.walk
  stepped v vs w step fits is = by_list max tree v vs w fits ∙ ap (λ r. visits_of (r >>= λ s. walk_all max tree (pending_after v s vs) s.walk)) is

  -- no more visits, or a name that was read
  pub passed : (v : Visit) (vs : List Visit) (w : Walk) → w.left ≤ max → is_over v w ≡ true → Visited (v ∷ vs) w ≡ Visited vs w
  passed v vs w fits over = stepped v vs w (still w) fits (cases_step tree v w (still w) (passed_over over refl))

  pub over_at_end : (v : Visit) (w : Walk) → w.left ≡ 0 → is_over v w ≡ true
  over_at_end v w none = ap (λ n. (n == 0) || is_among w.read v.name) none

  or_second : (a : Bool) → (a || true) ≡ true
  or_second true = refl
  or_second false = refl

  pub over_if_read : (v : Visit) (w : Walk) → is_among w.read v.name ≡ true → is_over v w ≡ true
  over_if_read v w read = ap (λ b. (w.left == 0) || b) read ∙ or_second (w.left == 0)

  -- nothing is visited at the end
  pub drained : (vs : List Visit) (w : Walk) → w.left ≤ max → w.left ≡ 0 → Visited vs w ≡ Ok w.visits
  drained [] w fits none = refl
  drained (v ∷ vs) w fits none = passed v vs w fits (over_at_end v w none) ∙ drained vs w fits none

  -- nor where all were read
  pub all_read : (vs : List Visit) (w : Walk) → w.left ≤ max → unread_of w.read vs ≡ None → Visited vs w ≡ Ok w.visits
  all_read [] w fits none = refl
  all_read (v ∷ vs) w fits none = by_test (is_among w.read v.name) refl none (λ h. all_read vs w fits h)
    where
      by_test : (b : Bool) → is_among w.read v.name ≡ b → (if b then unread_of w.read vs else Some (v, vs)) ≡ None → (unread_of w.read vs ≡ None → Visited vs w ≡ Ok w.visits) → Visited (v ∷ vs) w ≡ Ok w.visits
      by_test true read h later = passed v vs w fits (over_if_read v w read) ∙ later h
      by_test false read h later = cc

  -- those before the first that wasn't read are passed over
  pub skips : (vs : List Visit) (w : Walk) (v : Visit) (rest : List Visit) → w.left ≤ max → unread_of w.read vs ≡ Some (v, rest) → Visited vs w ≡ Visited (v ∷ rest) w
  skips [] w v rest fits h = cc
  skips (u ∷ us) w v rest fits h = by_test (is_among w.read u.name) refl h (λ k. skips us w v rest fits k)
    where
      by_test : (b : Bool) → is_among w.read u.name ≡ b → (if b then unread_of w.read us else Some (u, us)) ≡ Some (v, rest) → (unread_of w.read us ≡ Some (v, rest) → Visited us w ≡ Visited (v ∷ rest) w) → Visited (u ∷ us) w ≡ Visited (v ∷ rest) w
      by_test true read h later = passed u us w fits (over_if_read u w read) ∙ later h
      by_test false read h later = ap (λ (x : Visit × List Visit). Visited (x.0 ∷ x.1) w) (some_same (u, us) (v, rest) h)

-- the first that wasn't read
pub is_unread : (read : List (List ℕ)) (vs : List Visit) (v : Visit) (rest : List Visit) → unread_of read vs ≡ Some (v, rest) → is_among read v.name ≡ false
is_unread read [] v rest h = cc
is_unread read (u ∷ us) v rest h = by_test (is_among read u.name) refl h (λ k. is_unread read us v rest k)
  where
    by_test : (b : Bool) → is_among read u.name ≡ b → (if b then unread_of read us else Some (u, us)) ≡ Some (v, rest) → (unread_of read us ≡ Some (v, rest) → is_among read v.name ≡ false) → is_among read v.name ≡ false
    by_test true e h later = later h
    by_test false e h later = subst (λ (x : Visit × List Visit). is_among read x.0.name ≡ false) (some_same (u, us) (v, rest) h) e

-- what holds of all that is pending holds of it, and of those behind it
pub unread_all : (P : Visit → Type 0) (read : List (List ℕ)) (vs : List Visit) (v : Visit) (rest : List Visit) → unread_of read vs ≡ Some (v, rest) → AllByRecursion P vs → P v × AllByRecursion P rest
unread_all P read [] v rest h all = cc
unread_all P read (u ∷ us) v rest h all = by_test (is_among read u.name) h (λ k. unread_all P read us v rest k all.1)
  where
    by_test : (b : Bool) → (if b then unread_of read us else Some (u, us)) ≡ Some (v, rest) → (unread_of read us ≡ Some (v, rest) → P v × AllByRecursion P rest) → P v × AllByRecursion P rest
    by_test true h later = later h
    by_test false h later = subst (λ (x : Visit × List Visit). P x.0 × AllByRecursion P x.1) (some_same (u, us) (v, rest) h) all

-- where one more visit is allowed, and is made, it is the first that wasn't read
module _ (max : ℕ) (tree : Tree) (w : Walk) (v : Visit) (fits : w.left ≤ max) (one : w.left ≡ 1) where
  no_more : {C : Type 0} → ◌≡◌ {A = Result (List Visit) Gap} (Ok w.visits) (Ok (w.visits ++ v ∷ [])) → C
  no_more h = let none : [] ≡ v ∷ [] = append_cancel_left w.visits [] (v ∷ []) (append-nil w.visits ∙ ok_same w.visits (w.visits ++ v ∷ []) h) in cc

  module _ (u : Visit) (rest : List Visit) where
    first_same : u ∷ [] ≡ v ∷ [] → u ≡ v
    first_same h = cc

    made_last : (step : Step) → step.walk.visits ≡ w.visits ++ u ∷ [] → step.walk.left ≤ w.left - 1 → Visited max tree (pending_after u step rest) step.walk ≡ Ok (w.visits ++ v ∷ []) → u ≡ v
    made_last step more less h =
        let none : step.walk.left ≡ 0 = omega (arith, less, one) in
        let done = drained max tree (pending_after u step rest) step.walk (omega (arith, none)) none in
        first_same (append_cancel_left w.visits (u ∷ []) (v ∷ []) (sym more ∙ ok_same step.walk.visits (w.visits ++ v ∷ []) (sym done ∙ h)))

    by_step : (step : Step) → StepOf tree.snapshot tree.path (tree.documents u.name) u w step → is_among w.read u.name ≡ false → Visited max tree (pending_after u step rest) step.walk ≡ Ok (w.visits ++ v ∷ []) → u ≡ v
    by_step step (passed_over over is) unread h =
        let never : true ≡ false = sym over ∙ ap (λ n. (n == 0) || is_among w.read u.name) one ∙ unread in cc
    by_step step (unpinned on free is) unread h = let e = ap (λ (s : Step). s.walk.left) is in made_last step (ap (λ (s : Step). s.walk.visits) is) (omega (arith, e)) h
    by_step step (listing doc on pin at l is) unread h = let e = ap (λ (s : Step). s.walk.left) is in made_last step (ap (λ (s : Step). s.walk.visits) is) (omega (arith, e)) h
    by_step step (followed doc next on pin at l m is) unread h = let e = ap (λ (s : Step). s.walk.left) is in made_last step (ap (λ (s : Step). s.walk.visits) is) (omega (arith, e)) h

    by_result : (r : Result Step Gap) → visit_of tree u w ≡ r → is_among w.read u.name ≡ false → visits_of (r >>= λ s. walk_all max tree (pending_after u s rest) s.walk) ≡ Ok (w.visits ++ v ∷ []) → u ≡ v
    by_result (Ok step) is unread h = by_step step (step_cases tree u w step is) unread h
    by_result (Err gap) is unread h = cc

  pub last_made : (vs : List Visit) → Visited max tree vs w ≡ Ok (w.visits ++ v ∷ []) → (rest : List Visit) × (unread_of w.read vs ≡ Some (v, rest))
  last_made vs h = by_unread (unread_of w.read vs) refl
    where
      by_unread : (o : Option (Visit × List Visit)) → unread_of w.read vs ≡ o → (rest : List Visit) × (unread_of w.read vs ≡ Some (v, rest))
      by_unread None e = no_more (sym (all_read max tree vs w fits e) ∙ h)
      by_unread (Some (u, rest)) e =
          let same = by_result u rest (visit_of tree u w) refl (is_unread w.read vs u rest e) (sym (by_list max tree u rest w fits) ∙ sym (skips max tree vs w u rest fits e) ∙ h) in
          (rest, e ∙ ap (λ x. Some (x, rest)) same)
