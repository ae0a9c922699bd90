-- From the ways of one level to those of the next, and to the anchors.
use Rattle.std.proofs.Common.{◌≡◌, ⊎_elim, ℕ, zero, suc, ◌+◌, ◌-◌, ◌<◌, ◌≤◌, Bool, true, false, ◌==◌, cond, List, [], ◌∷◌, ◌++◌, length, get_or, set, drop, Option, Some, None, refl, sym, ◌∙◌, ap, arith}
use Rattle.std.specs.List.{list_any}
use Rattle.std.specs.Option.{option_map, option_or}
use Rattle.std.proofs.lemmas.Bool.{or_cases, or_left, or_right, eqb-true, eq-eqb, cases_eq}
use Rattle.std.proofs.lemmas.List.{append-nil, append_assoc, get_or-set_other, drop_more, drop_all}
use Rattle.std.proofs.lemmas.Option.{none-some}
use Rattle.path_core.specs.declared.route.Route.{Route}
use Rattle.path_core.specs.declared.way.Way.{Way}
use Rattle.path_core.specs.Paths.{Setting}
use Rattle.path_core.specs.Level.{Adds}
use Rattle.path_core.specs.Search.{goes, ends, first_from, through, after, at_anchor, best, over, over_ways, extended, over_anchor, over_next, AreCovered}

-- ---- the first of several answers

pub or_assoc : {X : Type 0} (a b c : Option X) → option_or (option_or a b) c ≡ option_or a (option_or b c)
or_assoc None b c = refl
or_assoc (Some x) b c = refl

pub or_none : {X : Type 0} (a : Option X) → option_or a None ≡ a
or_none None = refl
or_none (Some x) = refl

-- an answer that is none where an earlier one is none may be left out
pub or_skip : {X : Type 0} (a b c : Option X) → (a ≡ None → b ≡ None) → option_or a (option_or b c) ≡ option_or a c
or_skip None b c h = ap (λ b. option_or b c) (h refl)
or_skip (Some x) b c h = refl

or_parts : {X : Type 0} (a b : Option X) → option_or a b ≡ None → (a ≡ None) × (b ≡ None)
or_parts None b h = (refl, h)
or_parts (Some x) b h = absurd (none-some x (sym h))

map_or : {X Y : Type 0} (g : X → Y) (a b : Option X) → option_map g (option_or a b) ≡ option_or (option_map g a) (option_map g b)
map_or g None b = refl
map_or g (Some x) b = refl

pub map_first : {X Y : Type 0} (g : X → Y) (f : ℕ → Option X) (h : ℕ → Option Y) → ((j : ℕ) → option_map g (f j) ≡ h j) → (i n : ℕ) → option_map g (first_from f i n) ≡ first_from h i n
map_first g f h each i zero = refl
map_first g f h each i (suc n) = map_or g (f i) (first_from f (i + 1) n) ∙ ap (λ a. option_or a (option_map g (first_from f (i + 1) n))) (each i) ∙ ap (option_or (h i)) (map_first g f h each (i + 1) n)

pub first_more : {X : Type 0} (f : ℕ → Option X) (i n : ℕ) → i < n → first_from f i (n - i) ≡ option_or (f i) (first_from f (i + 1) (n - (i + 1)))
first_more f i n h =
    let left : n - i ≡ suc (n - (i + 1)) = omega arith in
    ap (first_from f i) left

pub first_none : {X : Type 0} (f : ℕ → Option X) (i n : ℕ) → n ≤ i → first_from f i (n - i) ≡ None
first_none f i n h =
    let left : n - i ≡ 0 = omega arith in
    ap (first_from f i) left

-- what is left from i on, where it gives what the whole does
pub first_past : {X : Type 0} (f : ℕ → Option X) (i n : ℕ) (whole : Option X) → first_from f i (n - i) ≡ whole → i < n → f i ≡ None → first_from f (i + 1) (n - (i + 1)) ≡ whole
first_past f i n whole e h none = sym (ap (λ o. option_or o (first_from f (i + 1) (n - (i + 1)))) none) ∙ sym (first_more f i n h) ∙ e

pub first_here : {X : Type 0} (f : ℕ → Option X) (i n : ℕ) (whole : Option X) (x : X) → first_from f i (n - i) ≡ whole → i < n → f i ≡ Some x → whole ≡ Some x
first_here f i n whole x e h some = sym e ∙ first_more f i n h ∙ ap (λ o. option_or o (first_from f (i + 1) (n - (i + 1)))) some

pub first_over : {X : Type 0} (f : ℕ → Option X) (i n : ℕ) (whole : Option X) → first_from f i (n - i) ≡ whole → n ≤ i → whole ≡ None
first_over f i n whole e h = sym e ∙ first_none f i n h

pub first_all : {X : Type 0} (f : ℕ → Option X) (n : ℕ) → first_from f 0 (n - 0) ≡ first_from f 0 n
first_all f n =
    let all : n - 0 ≡ n = omega arith in
    ap (first_from f 0) all

-- ---- a way to the anchors

end_way : (way : Way) (a : ℕ) (b : Bool) → option_map (after way.positions) (cond b (Some (let p : Route = record { positions = []; anchor = a } in p)) None) ≡ cond b (Some (let p : Route = record { positions = way.positions; anchor = a } in p)) None
end_way way a true = ap (λ positions. Some (let p : Route = record { positions = positions; anchor = a } in p)) (append-nil way.positions)
end_way way a false = refl

pub over_end : (w : Setting) (below : ℕ) (way : Way) → over w 0 below way ≡ first_from (over_anchor w way) 0 (length w.anchors)
unfolding over best
over_end w below way = map_first (after way.positions) (at_anchor w way.source) (over_anchor w way) (λ a. end_way way a (ends w way.source a)) 0 (length w.anchors)

-- ---- a way to the next level

farther : (way : Way) (i : ℕ) (o : Option Route) → option_map (after way.positions) (option_map (through i) o) ≡ option_map (after (way.positions ++ i ∷ [])) o
farther way i None = refl
farther way i (Some p) = ap (λ positions. Some (let p : Route = record { positions = positions; anchor = p.anchor } in p)) (sym (append_assoc way.positions (i ∷ []) p.positions))

next_way : (way : Way) (i : ℕ) (b : Bool) (o : Option Route) → option_map (after way.positions) (cond b (option_map (through i) o) None) ≡ cond b (option_map (after (way.positions ++ i ∷ [])) o) None
next_way way i true o = farther way i o
next_way way i false o = refl

pub over_onward : (w : Setting) (r below : ℕ) (way : Way) → over w (suc r) below way ≡ first_from (over_next w r below way) 0 (length w.intermediates)
unfolding over best
over_onward w r below way =
    map_first (after way.positions) (λ i. cond (goes w below way.source i) (option_map (through i) (best w r (below + 1) i)) None) (over_next w r below way)
    (λ i. next_way way i (goes w below way.source i) (best w r (below + 1) i)) 0 (length w.intermediates)

-- ---- the ways of a level

pub over_ways_push : (w : Setting) (r below : ℕ) (ways : List Way) (way : Way) → over_ways w r below (ways ++ way ∷ []) ≡ option_or (over_ways w r below ways) (over w r below way)
over_ways_push w r below [] way = or_none (over w r below way)
over_ways_push w r below (x ∷ ways) way = ap (option_or (over w r below x)) (over_ways_push w r below ways way) ∙ sym (or_assoc (over w r below x) (over_ways w r below ways) (over w r below way))

map_none : {X Y : Type 0} (g : X → Y) (o : Option X) → option_map g o ≡ None → o ≡ None
map_none g None h = refl
map_none g (Some x) h = absurd (none-some (g x) (sym h))

-- where an earlier way ends at i and finds nothing, another way to i finds nothing
pub covered_none : (w : Setting) (r below i : ℕ) (ways : List Way) → list_any (λ way. way.source == i) ways ≡ true → over_ways w r below ways ≡ None → (way : Way) → over w r below (extended way i) ≡ None
unfolding over
covered_none w r below i [] any none way = cc
covered_none w r below i (x ∷ ways) any none way =
    let parts = or_parts (over w r below x) (over_ways w r below ways) none in
    ⊎_elim
    (λ here.
    let nothing : best w r below x.source ≡ None = map_none (after x.positions) (best w r below x.source) parts.0 in
    ap (λ s. option_map (after (way.positions ++ i ∷ [])) (best w r below s)) (sym (eqb-true x.source i here)) ∙ ap (option_map (after (way.positions ++ i ∷ []))) nothing)
    (λ later. covered_none w r below i ways later parts.1 way)
    (or_cases (x.source == i) (list_any (λ way. way.source == i) ways) any)

-- a way to a position that a way of the level has already may be left out
pub skip_covered : (w : Setting) (r below i : ℕ) (ways : List Way) (way : Way) (rest : Option Route) → list_any (λ way. way.source == i) ways ≡ true
    → option_or (over_ways w r (below + 1) ways) (option_or (over_next w r below way i) rest) ≡ option_or (over_ways w r (below + 1) ways) rest
skip_covered w r below i ways way rest any =
    or_skip (over_ways w r (below + 1) ways) (over_next w r below way i) rest (λ none. at_test (goes w below way.source i) (covered_none w r (below + 1) i ways any none way))
  where
    at_test : (b : Bool) → over w r (below + 1) (extended way i) ≡ None → cond b (over w r (below + 1) (extended way i)) None ≡ None
    at_test true none = none
    at_test false none = refl

-- ---- what was added

pub adds_none : (w : Setting) (r below i : ℕ) (ways : List Way) (way : Way) → list_any (λ way. way.source == i) ways ≡ true → Adds w r (below + 1) ways ways (over_next w r below way i)
adds_none w r below i ways way any =
    ap (option_or (over_ways w r (below + 1) ways)) (sym (or_none (over_next w r below way i))) ∙ skip_covered w r below i ways way None any ∙ or_none (over_ways w r (below + 1) ways)

pub adds_nothing : (w : Setting) (r below i : ℕ) (ways : List Way) (way : Way) → goes w below way.source i ≡ false → Adds w r (below + 1) ways ways (over_next w r below way i)
adds_nothing w r below i ways way apart =
    ap (λ b. option_or (over_ways w r (below + 1) ways) (cond b (over w r (below + 1) (extended way i)) None)) apart ∙ or_none (over_ways w r (below + 1) ways)

pub adds_way : (w : Setting) (r below i : ℕ) (ways : List Way) (way : Way) (new : List Way) (x : Way) → goes w below way.source i ≡ true → new ≡ ways ++ x ∷ [] → x ≡ extended way i → Adds w r (below + 1) ways new (over_next w r below way i)
adds_way w r below i ways way new x there e longer =
    ap (λ b. option_or (over_ways w r (below + 1) ways) (cond b (over w r (below + 1) (extended way i)) None)) there
    ∙ ap (λ x. option_or (over_ways w r (below + 1) ways) (over w r (below + 1) x)) (sym longer)
    ∙ sym (over_ways_push w r (below + 1) ways x)
    ∙ ap (over_ways w r (below + 1)) (sym e)

any_push : (f : Way → Bool) (ways : List Way) (x : Way) → f x ≡ true → list_any f (ways ++ x ∷ []) ≡ true
any_push f [] x e = or_left (f x) false e
any_push f (y ∷ ways) x e = or_right (f y) (list_any f (ways ++ x ∷ [])) (any_push f ways x e)

any_still : (f : Way → Bool) (ways : List Way) (x : Way) → list_any f ways ≡ true → list_any f (ways ++ x ∷ []) ≡ true
any_still f [] x e = cc
any_still f (y ∷ ways) x e = ⊎_elim (λ here. or_left (f y) _ here) (λ later. or_right (f y) _ (any_still f ways x later)) (or_cases (f y) (list_any f ways) e)

pub covered_push : (reached : List Bool) (ways : List Way) (i : ℕ) (x : Way) → x.source ≡ i → AreCovered reached ways → AreCovered (set reached i true) (ways ++ x ∷ [])
covered_push reached ways i x at covered = λ j marked.
    ⊎_elim
    (λ same. any_push (λ way. way.source == j) ways x (eq-eqb x.source j (at ∙ sym same)))
    (λ ne. any_still (λ way. way.source == j) ways x (covered j (sym (get_or-set_other reached i j true false ne) ∙ marked)))
    (cases_eq j i)

-- ---- the loops

-- what was found, what is left to add and the next of it
pub add_step : {X : Type 0} (f : ℕ → Option X) (i n : ℕ) (old new whole : Option X) → i < n → option_or old (first_from f i (n - i)) ≡ whole → option_or old (f i) ≡ new → option_or new (first_from f (i + 1) (n - (i + 1))) ≡ whole
add_step f i n old new whole h e added =
    ap (λ o. option_or o (first_from f (i + 1) (n - (i + 1)))) (sym added) ∙ or_assoc old (f i) (first_from f (i + 1) (n - (i + 1))) ∙ ap (option_or old) (sym (first_more f i n h)) ∙ e

pub add_end : {X : Type 0} (f : ℕ → Option X) (i n : ℕ) (new whole : Option X) → n ≤ i → option_or new (first_from f i (n - i)) ≡ whole → whole ≡ new
add_end f i n new whole h e = sym e ∙ ap (option_or new) (first_none f i n h) ∙ or_none new

pub ways_step : (w : Setting) (r below i : ℕ) (ways : List Way) (way : Way) (old new whole : Option Route) → i < length ways → way ≡ get_or ways i way
    → option_or old (over_ways w r below (drop i ways)) ≡ whole → option_or old (over w r below way) ≡ new → option_or new (over_ways w r below (drop (i + 1) ways)) ≡ whole
ways_step w r below i ways way old new whole h at e added =
    ap (λ o. option_or o (over_ways w r below (drop (i + 1) ways))) (sym added)
    ∙ or_assoc old (over w r below way) (over_ways w r below (drop (i + 1) ways))
    ∙ ap (λ x. option_or old (option_or (over w r below x) (over_ways w r below (drop (i + 1) ways)))) at
    ∙ ap (λ rest. option_or old (over_ways w r below rest)) (sym (drop_more ways i way h))
    ∙ e

pub ways_end : (w : Setting) (r below i : ℕ) (ways : List Way) (new whole : Option Route) → length ways ≤ i → option_or new (over_ways w r below (drop i ways)) ≡ whole → new ≡ whole
ways_end w r below i ways new whole h e = sym (or_none new) ∙ ap (λ rest. option_or new (over_ways w r below rest)) (sym (drop_all i ways h)) ∙ e

-- ---- the first level and the levels

abbrev leaf_way : ℕ → Way
leaf_way n = record { source = n; positions = [] }

after_nothing : (o : Option Route) → option_map (after []) o ≡ o
after_nothing None = refl
after_nothing (Some p) = refl

pub over_leaf : (w : Setting) (r n : ℕ) (way : Way) → way ≡ leaf_way n → over w r 0 way ≡ best w r 0 n
unfolding over
over_leaf w r n way e = ap (λ (way : Way). option_map (after way.positions) (best w r 0 way.source)) e ∙ after_nothing (best w r 0 n)

pub start_finds : (w : Setting) (r n : ℕ) → over_ways w r 0 (leaf_way n ∷ []) ≡ best w r 0 n
start_finds w r n = or_none (over w r 0 (leaf_way n)) ∙ over_leaf w r n (leaf_way n) refl

-- ---- one position of the plain recursion

pub next_apart : (w : Setting) (r below i : ℕ) (way : Way) → goes w below way.source i ≡ false → over_next w r below way i ≡ None
next_apart w r below i way apart = ap (λ b. cond b (over w r (below + 1) (extended way i)) None) apart

pub next_there : (w : Setting) (r below i : ℕ) (way x : Way) (o : Option Route) → goes w below way.source i ≡ true → x ≡ extended way i → o ≡ over w r (below + 1) x → over_next w r below way i ≡ o
next_there w r below i way x o there longer found = ap (λ b. cond b (over w r (below + 1) (extended way i)) None) there ∙ ap (over w r (below + 1)) (sym longer) ∙ sym found

pub none_where_no_some : {X : Type 0} (o : Option X) → ((x : X) → o ≡ Some x → ⊥) → o ≡ None
none_where_no_some None h = refl
none_where_no_some (Some x) h = absurd (h x refl)
