-- The place of a member in a set.
use Rattle.std.proofs.Common.{◌≡◌, ℕ, zero, suc, ◌+◌, ◌<◌, Bool, true, false, cond, List, [], ◌∷◌, length, get_or, drop, Ok, Err, refl, sym, ap, ◌∙◌, arith}
use Rattle.std.specs.Prelude.{insert, ◌&&◌, OnOk, OnErr}
use Rattle.std.specs.declared.cmp.Ordering.{Ordering}
use Rattle.std.specs.declared.cmp.Ordering.TheVariants.{Less, Equal, Greater}
use Rattle.std.specs.Ordering.{nat_cmp, is_lt, ordering_reverse}
use Rattle.std.specs.Cmp.Lexicographic.{slice_cmp, nat_list_cmp_total}
use Rattle.std.proofs.lemmas.List.{drop_all}
use Rattle.foundation.specs.Steps.{◌>>=◌}
use Rattle.foundation.specs.Results.{and_true}
use Rattle.der_grammar.specs.declared.error.DerError.{DerError}
use Rattle.der_grammar.specs.declared.error.DerError.TheVariants.{SetDuplicate}
use Rattle.der_grammar.specs.Outcome.{Outcome}
use Rattle.der_grammar.specs.Grammar.{Grammar, write}
use Rattle.der_grammar.specs.Sets.{Keyed, is_before, keyed, place, ordered, rises, values, distinct, set_from, is_set}
use Rattle.der_grammar.specs.SetLaws.{AreKeyed, are_keyed, keyed-values, ordered-same, set_is_rising, set_from-is_set}
use Rattle.der_grammar.specs.Places.{by_order, place_of, put}
use Rattle.der_grammar.proofs.Loops.{Refuses, refuses_along, refuses_as, left}

abbrev pub PlacesOn : {A : Type 0} → Grammar A → List ℕ → List A → ℕ → Type 0
PlacesOn g key items i = (place_of g key (drop i items) >>= λ k. Ok (i + k)) ≡ place_of g key items

place_here : {A : Type 0} (g : Grammar A) (key other : List ℕ) (items : List A) (i : ℕ) (x : A) → i < length items → x ≡ get_or items i x → write g x ≡ Ok other
    → place_of g key (drop i items) ≡ by_order (slice_cmp nat_cmp key other) (Ok 0) (Err SetDuplicate) (place_of g key (drop (i + 1) items) >>= λ i. Ok (suc i))
unfolding place_of
place_here g key other items i x lt is w = ap (place_of g key) (left items i x lt is) ∙ ap (λ (z : Outcome (List ℕ)). z >>= λ other. by_order (slice_cmp nat_cmp key other) (Ok 0) (Err SetDuplicate) (place_of g key (drop (i + 1) items) >>= λ i. Ok (suc i))) w

pub place_less : {A : Type 0} (g : Grammar A) (key other : List ℕ) (items : List A) (i : ℕ) (x : A) → i < length items → x ≡ get_or items i x → write g x ≡ Ok other → slice_cmp nat_cmp key other ≡ Less → PlacesOn g key items i → place_of g key items ≡ Ok i
place_less g key other items i x lt is w o h =
    let p = place_here g key other items i x lt is w in
    let q : place_of g key (drop i items) ≡ Ok 0 = p ∙ ap (λ (z : Ordering). by_order z (Ok 0) (Err SetDuplicate) (place_of g key (drop (i + 1) items) >>= λ i. Ok (suc i))) o in
    sym h ∙ ap (λ (z : Outcome ℕ). z >>= λ k. Ok (i + k)) q ∙ ap (λ (z : ℕ). Ok z) (omega arith)

pub place_equal : {A : Type 0} (g : Grammar A) (key other : List ℕ) (items : List A) (i : ℕ) (x : A) → i < length items → x ≡ get_or items i x → write g x ≡ Ok other → slice_cmp nat_cmp key other ≡ Equal → PlacesOn g key items i → place_of g key items ≡ Err SetDuplicate
place_equal g key other items i x lt is w o h =
    let p = place_here g key other items i x lt is w in
    let q : place_of g key (drop i items) ≡ Err SetDuplicate = p ∙ ap (λ (z : Ordering). by_order z (Ok 0) (Err SetDuplicate) (place_of g key (drop (i + 1) items) >>= λ i. Ok (suc i))) o in
    sym h ∙ ap (λ (z : Outcome ℕ). z >>= λ k. Ok (i + k)) q

next_place : (i : ℕ) (r : Outcome ℕ) → ((r >>= λ k. Ok (suc k)) >>= λ k. Ok (i + k)) ≡ (r >>= λ k. Ok ((i + 1) + k))
next_place i (Ok k) = ap (λ (z : ℕ). Ok z) (omega arith)
next_place i (Err e) = refl

pub place_greater : {A : Type 0} (g : Grammar A) (key other : List ℕ) (items : List A) (i : ℕ) (x : A) → i < length items → x ≡ get_or items i x → write g x ≡ Ok other → slice_cmp nat_cmp key other ≡ Greater → PlacesOn g key items i → PlacesOn g key items (i + 1)
place_greater g key other items i x lt is w o h =
    let p = place_here g key other items i x lt is w in
    let q : place_of g key (drop i items) ≡ (place_of g key (drop (i + 1) items) >>= λ i. Ok (suc i)) = p ∙ ap (λ (z : Ordering). by_order z (Ok 0) (Err SetDuplicate) (place_of g key (drop (i + 1) items) >>= λ i. Ok (suc i))) o in
    sym (next_place i (place_of g key (drop (i + 1) items))) ∙ ap (λ (z : Outcome ℕ). z >>= λ k. Ok (i + k)) (sym q) ∙ h

pub placing_refused : {A : Type 0} (e : DerError) (g : Grammar A) (key : List ℕ) (items : List A) (i : ℕ) (x : A) → i < length items → x ≡ get_or items i x → Refuses e (write g x) → PlacesOn g key items i → Refuses e (place_of g key items)
unfolding place_of
placing_refused {A} e g key items i x lt is f h =
    refuses_as e _ _ h (refuses_along e (place_of g key (drop i items)) (λ k. Ok (i + k))
    (refuses_as e _ _ (sym (ap (place_of g key) (left items i x lt is))) (refuses_along e (write g x) (λ other. by_order (slice_cmp nat_cmp key other) (Ok 0) (Err SetDuplicate) (place_of g key (drop (i + 1) items) >>= λ i. Ok (suc i))) f)))

pub ends_placing : {A : Type 0} (g : Grammar A) (key : List ℕ) (items : List A) (i : ℕ) → i ≡ length items → PlacesOn g key items i → place_of g key items ≡ Ok i
unfolding place_of
ends_placing g key items i e h =
    let n : place_of g key (drop i items) ≡ Ok 0 = rw (drop_all i items (omega arith)) refl in
    sym h ∙ ap (λ (z : Outcome ℕ). z >>= λ k. Ok (i + k)) n ∙ ap (λ (z : ℕ). Ok z) (omega arith)

-- ---- the place is the one in ascending order

-- how many come before the member
abbrev index : {A : Type 0} → Keyed A → List (Keyed A) → ℕ
index k [] = 0
index k (y ∷ ys) = cond (is_before y k) (suc (index k ys)) 0

place-insert : {A : Type 0} (k : Keyed A) (ys : List (Keyed A)) → place k ys ≡ insert ys (index k ys) k
place-insert k [] = refl
place-insert {A} k (y ∷ ys) = by_test (is_before y k) (place-insert k ys)
  where
    by_test : (b : Bool) → place k ys ≡ insert ys (index k ys) k → cond b (y ∷ place k ys) (k ∷ y ∷ ys) ≡ insert (y ∷ ys) (cond b (suc (index k ys)) 0) k
    by_test true h = ap (λ (z : List (Keyed A)). y ∷ z) h
    by_test false h = refl

values-insert : {A : Type 0} (k : Keyed A) (ys : List (Keyed A)) (i : ℕ) → values (insert ys i k) ≡ insert (values ys) i k.1
values-insert k [] zero = refl
values-insert k [] (suc i) = refl
values-insert k (y ∷ ys) zero = refl
values-insert {A} k (y ∷ ys) (suc i) = ap (λ (z : List A). y.1 ∷ z) (values-insert k ys i)

rises-behind : {A : Type 0} (y k : Keyed A) (ys : List (Keyed A)) → is_before y k ≡ true → rises (y ∷ ys) ≡ true → rises (y ∷ place k ys) ≡ rises (place k ys)
rises-behind y k [] e h = rw e refl
rises-behind {A} y k (z ∷ zs) e h = by_test (is_before z k) (and_true (is_before y z) (rises (z ∷ zs)) h).0
  where
    by_test : (b : Bool) → is_before y z ≡ true → rises (y ∷ cond b (z ∷ place k zs) (k ∷ z ∷ zs)) ≡ rises (cond b (z ∷ place k zs) (k ∷ z ∷ zs))
    by_test true f = rw f refl
    by_test false f = rw e refl

rises-rest : {A : Type 0} (x : Keyed A) (xs : List (Keyed A)) → rises (x ∷ xs) ≡ true → rises xs ≡ true
rises-rest x [] e = refl
rises-rest x (y ∷ ys) e = (and_true (is_before x y) (rises (y ∷ ys)) e).1

later : (b : Bool) (i : ℕ) → (cond b (Ok i) (Err SetDuplicate) >>= λ i. Ok (suc i)) ≡ cond b (Ok (suc i)) (Err SetDuplicate)
later true i = refl
later false i = refl

turned : {A : Type 0} (x y : Keyed A) (o : Ordering) → slice_cmp nat_cmp x.0 y.0 ≡ o → is_before y x ≡ is_lt (ordering_reverse o)
turned x y o e = ap is_lt (nat_list_cmp_total.antisymm y.0 x.0 ∙ ap ordering_reverse e)

place_is : {A : Type 0} (g : Grammar A) (k : Keyed A) (ks : List (Keyed A)) → AreKeyed g ks → rises ks ≡ true → place_of g k.0 (values ks) ≡ cond (rises (place k ks)) (Ok (index k ks)) (Err SetDuplicate)
unfolding place_of
place_is g k [] h up = refl
place_is {A} g k (y ∷ ys) h up = let w = h.0 in rw w (by_cases (slice_cmp nat_cmp k.0 y.0) refl (place_is g k ys h.1 (rises-rest y ys up)))
  where
    by_cases : (o : Ordering) → slice_cmp nat_cmp k.0 y.0 ≡ o → place_of g k.0 (values ys) ≡ cond (rises (place k ys)) (Ok (index k ys)) (Err SetDuplicate)
        → by_order o (Ok 0) (Err SetDuplicate) (place_of g k.0 (values ys) >>= λ i. Ok (suc i)) ≡ cond (rises (place k (y ∷ ys))) (Ok (index k (y ∷ ys))) (Err SetDuplicate)
    by_cases Less e i = let no : is_before y k ≡ false = turned k y Less e in let first : is_before k y ≡ true = ap is_lt e in rw no (rw (first, up) refl)
    by_cases Equal e i = let no : is_before y k ≡ false = turned k y Equal e in let same : is_before k y ≡ false = ap is_lt e in rw no (rw same refl)
    by_cases Greater e i =
        let before : is_before y k ≡ true = turned k y Greater e in
        let r = rises-behind y k ys before up in
        rw before (ap (λ (z : Outcome ℕ). z >>= λ i. Ok (suc i)) i ∙ later (rises (place k ys)) (index k ys) ∙ ap (λ (b : Bool). cond b (Ok (suc (index k ys))) (Err SetDuplicate)) (sym r))

with_one : {A : Type 0} (g : Grammar A) (x : A) (key : List ℕ) (ks : List (Keyed A)) → AreKeyed g ks → rises ks ≡ true → distinct (place (key, x) ks) ≡ (place_of g key (values ks) >>= λ i. Ok (insert (values ks) i x))
with_one {A} g x key ks h up = rw (place_is g (key, x) ks h up) (by_test (rises (place (key, x) ks)))
  where
    by_test : (b : Bool) → cond b (Ok (values (place (key, x) ks))) (Err SetDuplicate) ≡ (cond b (Ok (index (key, x) ks)) (Err SetDuplicate) >>= λ i. Ok (insert (values ks) i x))
    by_test true = ap (λ (z : List A). Ok z) (ap values (place-insert (key, x) ks) ∙ values-insert (key, x) ks (index (key, x) ks))
    by_test false = refl

two_ways : {A B : Type 0} (r : Outcome A) (f h : A → Outcome B) → ((x : A) → f x ≡ h x) → (r >>= f) ≡ (r >>= h)
two_ways (Ok x) f h same = same x
two_ways (Err e) f h same = refl

twice : {A B C : Type 0} (r : Outcome A) (f : A → Outcome B) (h : B → Outcome C) → ((r >>= f) >>= h) ≡ (r >>= λ x. f x >>= h)
twice (Ok x) f h = refl
twice (Err e) f h = refl

-- putting a member into a set gives the set of the members with it
pub put_is : {A : Type 0} (g : Grammar A) (x : A) (ys : List A) → is_set g ys ≡ true → set_from g (x ∷ ys) ≡ put g x ys
unfolding set_from put keyed
put_is {A} g x ys s =
    let h = set_is_rising g ys s in
    let are = h.are in
    let k = are_keyed g ys h.keys are in
    let same = ordered-same h.keys h.rise_so in
    let vs = keyed-values g ys h.keys are in
    twice (write g x) (λ key. keyed g ys >>= λ ks. Ok ((key, x) ∷ ks)) (λ ks. distinct (ordered ks))
    ∙ two_ways (write g x) _ _ (λ key. rw are (ap (λ (z : List (Keyed A)). distinct (place (key, x) z)) same ∙ with_one g x key h.keys k h.rise_so ∙ ap (λ (z : List A). place_of g key z >>= λ i. Ok (insert z i x)) vs))

pub put-is_set : {A : Type 0} (g : Grammar A) (x : A) (ys zs : List A) → is_set g ys ≡ true → put g x ys ≡ Ok zs → is_set g zs ≡ true
put-is_set g x ys zs s e = set_from-is_set g (x ∷ ys) zs (put_is g x ys s ∙ e)

pub keeps_set : {A X : Type 0} (r : Outcome X) (g : Grammar A) (x : A) (old new : List A) → is_set g old ≡ true → OnOk r (put g x old ≡ Ok new) → OnErr r (new ≡ old) → is_set g new ≡ true
keeps_set (Ok u) g x old new s e same = put-is_set g x old new s e
keeps_set (Err d) g x old new s e same = ap (is_set g) same ∙ s

pub put_as : {A X : Type 0} (r : Outcome X) (g : Grammar A) (x : A) (old new : List A) → is_set g old ≡ true → OnOk r (put g x old ≡ Ok new) → OnOk r (set_from g (x ∷ old) ≡ Ok new)
put_as (Ok u) g x old new s e = put_is g x old s ∙ e
put_as (Err d) g x old new s e = tt
