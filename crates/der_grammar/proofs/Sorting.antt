-- A list sorted in a stable way is the one that is made by placing each element in turn.
use Rattle.std.proofs.Common.{◌≡◌, ◌⊎◌, ℕ, suc, ◌<◌, ◌≤◌, Bool, true, false, cond, List, [], ◌∷◌, length, get_or, refl, sym, ap, subst, ◌∙◌, arith, inl, inr}
use Rattle.std.specs.Prelude.{not, ◌&&◌, filter}
use Rattle.std.specs.Cmp.{IsStrictWeakOrder}
use Rattle.std.specs.List.Sorted.{IsSortedBy, IsStableBy, ties}
use Rattle.std.specs.Cmp.Lexicographic.{nat_list_cmp_total}
use Rattle.std.proofs.lemmas.List.Sorted.{ranks_by, sorted_far}
use Rattle.der_grammar.specs.Sets.{Keyed, is_before, place, ordered}

both : (a b : Bool) → (not a && not b) ≡ true → (a ≡ false) × (b ≡ false)
both true b e = absurd cc
both false true e = absurd cc
both false false e = (refl, refl)

either_way : (a : Bool) → (a ≡ true) ⊎ (a ≡ false)
either_way true = inl refl
either_way false = inr refl

-- ---- lists in order, by recursion

-- no element of ys comes before x
abbrev pub NoneBefore : {X : Type 0} → (X → X → Bool) → X → List X → Type 0
NoneBefore lt x [] = Unit {0}
NoneBefore lt x (y ∷ ys) = (lt y x ≡ false) × NoneBefore lt x ys

abbrev pub Ascends : {X : Type 0} → (X → X → Bool) → List X → Type 0
Ascends lt [] = Unit {0}
Ascends lt (x ∷ xs) = NoneBefore lt x xs × Ascends lt xs

none_before : {X : Type 0} (lt : X → X → Bool) (x : X) (ys : List X) → ((j : ℕ) → j < length ys → lt (get_or ys j x) x ≡ false) → NoneBefore lt x ys
none_before lt x [] h = tt
none_before lt x (y ∷ ys) h = (h 0 (omega arith), none_before lt x ys (λ j l. h (suc j) (omega arith)))

ascends-far : {X : Type 0} (lt : X → X → Bool) (xs : List X) → ((i j : ℕ) (d : X) → i ≤ j → j < length xs → lt (get_or xs j d) (get_or xs i d) ≡ false) → Ascends lt xs
ascends-far lt [] h = tt
ascends-far lt (x ∷ xs) h = (none_before lt x xs (λ j l. h 0 (suc j) x (omega arith) (omega arith)), ascends-far lt xs (λ i j d le l. h (suc i) (suc j) d (omega arith) (omega arith)))

ascends : {X : Type 0} (lt : X → X → Bool) (o : IsStrictWeakOrder lt) (xs : List X) → IsSortedBy lt xs → Ascends lt xs
ascends lt o xs up = ascends-far lt xs (sorted_far lt o xs up)

not_itself : {X : Type 0} (lt : X → X → Bool) (o : IsStrictWeakOrder lt) (x : X) → lt x x ≡ false
not_itself lt o x = elim (either_way (lt x x)) [ inl p ↦ o.one_way x x p | inr p ↦ p ]

ties_itself : {X : Type 0} (lt : X → X → Bool) (o : IsStrictWeakOrder lt) (x : X) → ties lt x x ≡ true
ties_itself lt o x = let e = not_itself lt o x in rw e refl

-- ---- one list in order with these ties

-- where x comes before y, nothing from y on ties with x
no_tie : {X : Type 0} (lt : X → X → Bool) (o : IsStrictWeakOrder lt) (x y z : X) → lt x y ≡ true → lt z y ≡ false → ties lt x z ≡ false
no_tie lt o x y z before behind = elim (either_way (ties lt x z)) [
  | inl p ↦ absurd (let c = o.chain x z y (both (lt x z) (lt z x) p).0 behind in cc)
  | inr p ↦ p
]

nothing_ties : {X : Type 0} (lt : X → X → Bool) (o : IsStrictWeakOrder lt) (x y : X) (zs : List X) → lt x y ≡ true → NoneBefore lt y zs → filter (ties lt x) zs ≡ []
nothing_ties lt o x y [] before h = refl
nothing_ties lt o x y (z ∷ zs) before h = let e = no_tie lt o x y z before h.0 in rw e (nothing_ties lt o x y zs before h.1)

-- the first element is among those that tie with it
ties_first : {X : Type 0} (lt : X → X → Bool) (o : IsStrictWeakOrder lt) (x : X) (xs : List X) → filter (ties lt x) (x ∷ xs) ≡ x ∷ filter (ties lt x) xs
ties_first lt o x xs = let e = ties_itself lt o x in rw e refl

-- so a list that begins with x isn't one that begins behind x
not_behind : {X : Type 0} (lt : X → X → Bool) (o : IsStrictWeakOrder lt) (x y : X) (xs ys : List X) → lt x y ≡ true → NoneBefore lt y ys → filter (ties lt x) (x ∷ xs) ≡ filter (ties lt x) (y ∷ ys) → ⊥
not_behind lt o x y xs ys before h e =
    let none = nothing_ties lt o x y (y ∷ ys) before (not_itself lt o y, h) in
    let some = ties_first lt o x xs in
    cc

cons-head : {X : Type 0} (x y : X) (xs ys : List X) → x ∷ xs ≡ y ∷ ys → x ≡ y
cons-head x y xs ys e = cc

cons-tail : {X : Type 0} (x y : X) (xs ys : List X) → x ∷ xs ≡ y ∷ ys → xs ≡ ys
cons-tail x y xs ys e = cc

-- the same first element can be left out
without_first : {X : Type 0} (test : X → Bool) (x : X) (xs ys : List X) → filter test (x ∷ xs) ≡ filter test (x ∷ ys) → filter test xs ≡ filter test ys
without_first test x xs ys e = elim (either_way (test x)) [
  | inl p ↦ cons-tail x x (filter test xs) (filter test ys) (rw p at e)
  | inr p ↦ rw p at e
]

first_same : {X : Type 0} (lt : X → X → Bool) (o : IsStrictWeakOrder lt) (x y : X) (xs ys : List X) → NoneBefore lt x xs → NoneBefore lt y ys → ((v : X) → filter (ties lt v) (x ∷ xs) ≡ filter (ties lt v) (y ∷ ys)) → x ≡ y
first_same lt o x y xs ys hx hy e = elim (either_way (lt x y)) [
  | inl p ↦ absurd (not_behind lt o x y xs ys p hy (e x))
  | inr p ↦ elim (either_way (lt y x)) [
    | inl q ↦ absurd (not_behind lt o y x ys xs q hx (sym (e y)))
    | inr q ↦
        let t : ties lt x y ≡ true = rw (p, q) refl in
        let f = e x in
        let a = ties_first lt o x xs in
        cons-head x y (filter (ties lt x) xs) (filter (ties lt x) ys) (sym a ∙ f ∙ rw t refl)
  ]
]

pub one_order : {X : Type 0} (lt : X → X → Bool) (o : IsStrictWeakOrder lt) (xs ys : List X) → Ascends lt xs → Ascends lt ys → ((v : X) → filter (ties lt v) xs ≡ filter (ties lt v) ys) → xs ≡ ys
one_order lt o [] [] hx hy e = refl
one_order lt o [] (y ∷ ys) hx hy e = absurd (let t = ties_first lt o y ys in let f = e y in cc)
one_order lt o (x ∷ xs) [] hx hy e = absurd (let t = ties_first lt o x xs in let f = e x in cc)
one_order {X} lt o (x ∷ xs) (y ∷ ys) hx hy e =
    let is : x ≡ y = first_same lt o x y xs ys hx.0 hy.0 e in
    let later : xs ≡ ys = one_order lt o xs ys hx.1 hy.1 (λ v. without_first (ties lt v) x xs ys (subst (λ (z : X). filter (ties lt v) (x ∷ xs) ≡ filter (ties lt v) (z ∷ ys)) (sym is) (e v))) in
    cc

-- ---- members placed in turn

pub by_encoding : {A : Type 0} → IsStrictWeakOrder (is_before {A = A})
by_encoding = ranks_by nat_list_cmp_total (λ k. k.0)

none_before-all : {A : Type 0} (x y : Keyed A) (ys : List (Keyed A)) → is_before y x ≡ false → NoneBefore is_before y ys → NoneBefore is_before x ys
none_before-all x y [] e h = tt
none_before-all x y (z ∷ ys) e h = (by_encoding.chain z y x h.0 e, none_before-all x y ys e h.1)

none_before-place : {A : Type 0} (x y : Keyed A) (ys : List (Keyed A)) → is_before x y ≡ false → NoneBefore is_before y ys → NoneBefore is_before y (place x ys)
none_before-place x y [] e h = (e, tt)
none_before-place x y (z ∷ ys) e h = elim (either_way (is_before z x)) [
  | inl p ↦ rw p (h.0, none_before-place x y ys e h.1)
  | inr p ↦ rw p (e, h)
]

ascends-place : {A : Type 0} (x : Keyed A) (ys : List (Keyed A)) → Ascends is_before ys → Ascends is_before (place x ys)
ascends-place x [] h = (tt, tt)
ascends-place x (y ∷ ys) h = elim (either_way (is_before y x)) [
  | inl p ↦ rw p (none_before-place x y ys (by_encoding.one_way y x p) h.0, ascends-place x ys h.1)
  | inr p ↦ rw p ((p, none_before-all x y ys p h.0), h)
]

ascends-ordered : {A : Type 0} (ks : List (Keyed A)) → Ascends is_before (ordered ks)
ascends-ordered [] = tt
ascends-ordered (k ∷ ks) = ascends-place k (ordered ks) (ascends-ordered ks)

-- two of which one comes before the other don't both tie with v
one_tie : {A : Type 0} (v x y : Keyed A) → is_before y x ≡ true → ties is_before v x ≡ true → ties is_before v y ≡ false
one_tie v x y before t = elim (either_way (ties is_before v y)) [
  | inl p ↦ absurd (let c = by_encoding.chain y v x (both (is_before v y) (is_before y v) p).1 (both (is_before v x) (is_before x v) t).0 in cc)
  | inr p ↦ p
]

exchanged : {A : Type 0} (v x y : Keyed A) (zs : List (Keyed A)) → is_before y x ≡ true → filter (ties is_before v) (y ∷ x ∷ zs) ≡ filter (ties is_before v) (x ∷ y ∷ zs)
exchanged v x y zs before = elim (either_way (ties is_before v x)) [
  | inl p ↦ let q = one_tie v x y before p in rw (q, p) refl
  | inr p ↦ rw p refl
]

under_first : {X : Type 0} (test : X → Bool) (x : X) (xs ys : List X) → filter test xs ≡ filter test ys → filter test (x ∷ xs) ≡ filter test (x ∷ ys)
under_first test x xs ys e = ap (λ z. cond (test x) (x ∷ z) z) e

ties-place : {A : Type 0} (v x : Keyed A) (ys : List (Keyed A)) → filter (ties is_before v) (place x ys) ≡ filter (ties is_before v) (x ∷ ys)
ties-place v x [] = refl
ties-place v x (y ∷ ys) = elim (either_way (is_before y x)) [
  | inl p ↦ rw p (under_first (ties is_before v) y (place x ys) (x ∷ ys) (ties-place v x ys) ∙ exchanged v x y ys p)
  | inr p ↦ rw p refl
]

ties-ordered : {A : Type 0} (v : Keyed A) (ks : List (Keyed A)) → filter (ties is_before v) (ordered ks) ≡ filter (ties is_before v) ks
ties-ordered v [] = refl
ties-ordered v (k ∷ ks) = ties-place v k (ordered ks) ∙ under_first (ties is_before v) k (ordered ks) ks (ties-ordered v ks)

pub sorted_is_ordered : {A : Type 0} (ks sorted : List (Keyed A)) → IsSortedBy is_before sorted → IsStableBy is_before ks sorted → sorted ≡ ordered ks
sorted_is_ordered ks sorted up stable = one_order is_before by_encoding sorted (ordered ks) (ascends is_before by_encoding sorted up) (ascends-ordered ks) (λ v. stable v ∙ sym (ties-ordered v ks))
