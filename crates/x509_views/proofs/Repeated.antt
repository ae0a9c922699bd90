-- Texts in order: one stands twice exactly where two neighbours don't rise.
use Rattle.std.proofs.Common.{◌≡◌, ℕ, zero, suc, ◌+◌, ◌<◌, ◌≤◌, Bool, true, false, cond, List, [], ◌∷◌, length, get_or, map, refl, sym, ap, subst, ◌∙◌, arith}
use Rattle.std.specs.Prelude.{bytes_eq, ◌||◌, not}
use Rattle.std.specs.List.{list_any, sum_by, IsAllAdjacentAnswer}
use Rattle.std.specs.List.Sorted.{IsPermutation, IsSortedByKey}
use Rattle.std.specs.declared.cmp.Ordering.{Ordering}
use Rattle.std.specs.declared.cmp.Ordering.TheVariants.{Less, Equal, Greater}
use Rattle.std.specs.Ordering.{nat_cmp, is_lt, is_eq, ordering_reverse}
use Rattle.std.specs.Cmp.Lexicographic.{slice_cmp}
use Rattle.std.proofs.lemmas.Cmp.{nat_list_cmp_total}
use Rattle.std.proofs.lemmas.Map.Text.{is_eq-slice_cmp}
use Rattle.std.proofs.lemmas.Slice.Eq.{bytes_eq-Decides}
use Rattle.std.proofs.lemmas.List.Sorted.{sum_by-IsPermutation, IsPermutation-map, IsPermutation-sym}
use Rattle.std.proofs.lemmas.List.Sums.{sum_by-cons}
use Rattle.x509_views.specs.Distinct.{repeats}

-- ---- how often a text stands

abbrev among : List ℕ → List (List ℕ) → Bool
among x xs = list_any (λ y. bytes_eq y x) xs

abbrev once : List ℕ → List ℕ → ℕ
once x y = cond (bytes_eq y x) 1 0

abbrev count : List ℕ → List (List ℕ) → ℕ
count x xs = sum_by (once x) xs

itself : (x : List ℕ) → bytes_eq x x ≡ true
itself x = (bytes_eq-Decides x x).1 refl

count-one : (x y : List ℕ) (ys : List (List ℕ)) → bytes_eq y x ≡ true → count x (y ∷ ys) ≡ suc (count x ys)
count-one x y ys t = sum_by-cons (once x) y ys ∙ rw t (omega arith)

count-other : (x y : List ℕ) (ys : List (List ℕ)) → bytes_eq y x ≡ false → count x (y ∷ ys) ≡ count x ys
count-other x y ys t = sum_by-cons (once x) y ys ∙ rw t (omega arith)

among-by : (x y : List ℕ) (ys : List (List ℕ)) (same : Bool) → bytes_eq y x ≡ same → (among x ys ≡ true → 1 ≤ count x ys) → among x (y ∷ ys) ≡ true → 1 ≤ count x (y ∷ ys)
among-by x y ys true t later h = omega (arith, count-one x y ys t)
among-by x y ys false t later h = let le = later (rw t at h) in omega (arith, count-other x y ys t)

among-count : (x : List ℕ) (xs : List (List ℕ)) → among x xs ≡ true → 1 ≤ count x xs
among-count x [] h = absurd cc
among-count x (y ∷ ys) h = among-by x y ys (bytes_eq y x) refl (among-count x ys) h

count-by : (x y : List ℕ) (ys : List (List ℕ)) (same : Bool) → bytes_eq y x ≡ same → (1 ≤ count x ys → among x ys ≡ true) → 1 ≤ count x (y ∷ ys) → among x (y ∷ ys) ≡ true
count-by x y ys true t later h = rw t refl
count-by x y ys false t later h = rw t (later (omega (arith, count-other x y ys t)))

count-among : (x : List ℕ) (xs : List (List ℕ)) → 1 ≤ count x xs → among x xs ≡ true
count-among x [] h = absurd (omega arith)
count-among x (y ∷ ys) h = count-by x y ys (bytes_eq y x) refl (count-among x ys) h

-- ---- one that stands twice

count-grows : (x y : List ℕ) (ys : List (List ℕ)) (same : Bool) → bytes_eq y x ≡ same → count x ys ≤ count x (y ∷ ys)
count-grows x y ys true t = omega (arith, count-one x y ys t)
count-grows x y ys false t = omega (arith, count-other x y ys t)

abbrev HasTwo : List (List ℕ) → Type 0
HasTwo xs = (x : List ℕ) × (2 ≤ count x xs)

repeats-by : (x : List ℕ) (xs : List (List ℕ)) (again : Bool) → among x xs ≡ again → (repeats xs ≡ true → HasTwo xs) → repeats (x ∷ xs) ≡ true → HasTwo (x ∷ xs)
repeats-by x xs true t later h = (x, omega (arith, count-one x x xs (itself x), among-count x xs t))
repeats-by x xs false t later h =
    let two = later (rw t at h) in
    (two.0, omega (arith, two.1, count-grows two.0 x xs (bytes_eq x two.0) refl))

repeats-two : (xs : List (List ℕ)) → repeats xs ≡ true → HasTwo xs
repeats-two [] h = absurd cc
repeats-two (x ∷ xs) h = repeats-by x xs (among x xs) refl (repeats-two xs) h

or_true : (a : Bool) → (a || true) ≡ true
or_true true = refl
or_true false = refl

two-by : (x y : List ℕ) (ys : List (List ℕ)) (same : Bool) → bytes_eq y x ≡ same → (2 ≤ count x ys → repeats ys ≡ true) → 2 ≤ count x (y ∷ ys) → repeats (y ∷ ys) ≡ true
two-by x y ys true t later h =
    let is : y ≡ x = (bytes_eq-Decides y x).0 t in
    let again : among y ys ≡ true = subst (λ (z : List ℕ). among z ys ≡ true) (sym is) (count-among x ys (omega (arith, count-one x y ys t))) in
    rw again refl
two-by x y ys false t later h =
    let e : repeats ys ≡ true = later (omega (arith, count-other x y ys t)) in
    rw e (or_true (among y ys))

two-repeats : (x : List ℕ) (xs : List (List ℕ)) → 2 ≤ count x xs → repeats xs ≡ true
two-repeats x [] h = absurd (omega arith)
two-repeats x (y ∷ ys) h = two-by x y ys (bytes_eq y x) refl (two-repeats x ys) h

moved-repeats : (xs ys : List (List ℕ)) → IsPermutation xs ys → repeats xs ≡ true → repeats ys ≡ true
moved-repeats xs ys moved h =
    let two = repeats-two xs h in
    two-repeats two.0 ys (omega (arith, two.1, sum_by-IsPermutation (once two.0) xs ys moved))

-- ---- texts in order

less : (o : Ordering) → is_lt o ≡ true → o ≡ Less
less Less e = refl
less Equal e = absurd cc
less Greater e = absurd cc

abbrev is_before : List ℕ → List ℕ → Bool
is_before x y = is_lt (slice_cmp nat_cmp x y)

before-differs : (x y : List ℕ) → is_before x y ≡ true → bytes_eq y x ≡ false
before-differs x y e =
    let l : slice_cmp nat_cmp x y ≡ Less = less (slice_cmp nat_cmp x y) e in
    sym (is_eq-slice_cmp y x) ∙ ap is_eq (nat_list_cmp_total.antisymm y x ∙ ap ordering_reverse l)

before-chain : (x y z : List ℕ) → is_before x y ≡ true → is_before y z ≡ true → is_before x z ≡ true
before-chain x y z p q = ap is_lt (nat_list_cmp_total.trans x y z (less (slice_cmp nat_cmp x y) p) (less (slice_cmp nat_cmp y z) q))

same-by : (x y : List ℕ) (o : Ordering) → slice_cmp nat_cmp x y ≡ o → is_lt o ≡ false → is_before y x ≡ false → bytes_eq y x ≡ true
same-by x y Less e p q = absurd cc
same-by x y Equal e p q = sym (is_eq-slice_cmp y x) ∙ ap is_eq (nat_list_cmp_total.antisymm y x ∙ ap ordering_reverse e)
same-by x y Greater e p q =
    let back : is_before y x ≡ true = ap is_lt (nat_list_cmp_total.antisymm y x ∙ ap ordering_reverse e) in
    absurd cc

-- ---- neighbours

module _ {X : Type 0} (key : X → List ℕ) where
  abbrev Rises : List X → Type 0
  Rises [] = Unit {0}
  Rises (x ∷ []) = Unit {0}
  Rises (x ∷ y ∷ ys) = (is_before (key x) (key y) ≡ true) × Rises (y ∷ ys)

  rises : (xs : List X) → ((k : ℕ) (d : X) → suc k < length xs → is_before (key (get_or xs k d)) (key (get_or xs (suc k) d)) ≡ true) → Rises xs
  rises [] h = tt
  rises (x ∷ []) h = tt
  rises (x ∷ y ∷ ys) h = (h 0 x (omega arith), rises (y ∷ ys) (λ k d lt. h (suc k) d (omega arith)))

  none-later : (x y : X) (ys : List X) → is_before (key x) (key y) ≡ true → Rises (y ∷ ys) → among (key x) (map key (y ∷ ys)) ≡ false
  none-later x y [] first up = let e = before-differs (key x) (key y) first in rw e refl
  none-later x y (z ∷ zs) first up =
      let e = before-differs (key x) (key y) first in
      let later = none-later x z zs (before-chain (key x) (key y) (key z) first up.0) up.1 in
      rw e later

  rises-once : (xs : List X) → Rises xs → repeats (map key xs) ≡ false
  rises-once [] up = refl
  rises-once (x ∷ []) up = refl
  rises-once (x ∷ y ∷ ys) up = let none = none-later x y ys up.0 up.1 in rw none (rises-once (y ∷ ys) up.1)

  neighbours : (xs : List X) (k : ℕ) (d : X) → suc k < length xs → bytes_eq (key (get_or xs (suc k) d)) (key (get_or xs k d)) ≡ true → repeats (map key xs) ≡ true
  neighbours [] k d lt e = absurd (omega arith)
  neighbours (x ∷ []) k d lt e = absurd (omega arith)
  neighbours (x ∷ y ∷ ys) zero d lt e = rw e refl
  neighbours (x ∷ y ∷ ys) (suc k) d lt e =
      let later : repeats (map key (y ∷ ys)) ≡ true = neighbours (y ∷ ys) k d (omega arith) e in
      rw later (or_true (among (key x) (map key (y ∷ ys))))

  next : (k : ℕ) → k + 1 ≡ suc k
  next k = omega arith

  answers : (ys : List X) (r : Bool) → IsSortedByKey key (slice_cmp nat_cmp) ys → IsAllAdjacentAnswer (λ x y b. b ≡ is_before (key x) (key y)) ys r → repeats (map key ys) ≡ not r
  answers ys true up h = rises-once ys (rises ys (λ k d lt. subst (λ (m : ℕ). is_before (key (get_or ys k d)) (key (get_or ys m d)) ≡ true) (next k) (sym (h k d (omega arith)))))
  answers [] false up h = absurd (let lt = h.1 in omega arith)
  answers (x ∷ xs) false up h =
      let ys = x ∷ xs in
      let forth = subst (λ (m : ℕ). is_before (key (get_or ys h.0 x)) (key (get_or ys m x)) ≡ false) (next h.0) (sym (h.2 x)) in
      let back = subst (λ (m : ℕ). is_before (key (get_or ys m x)) (key (get_or ys h.0 x)) ≡ false) (next h.0) (up h.0 x (omega arith) h.1) in
      neighbours ys h.0 x (omega (arith, h.1)) (same-by (key (get_or ys h.0 x)) (key (get_or ys (suc h.0) x)) _ refl forth back)

  same_truth : (a b : Bool) → (a ≡ true → b ≡ true) → (b ≡ true → a ≡ true) → a ≡ b
  same_truth true b f g = sym (f refl)
  same_truth false true f g = g refl
  same_truth false false f g = refl

  pub repeats-sorted : (xs ys : List X) (r : Bool) → IsPermutation xs ys → IsSortedByKey key (slice_cmp nat_cmp) ys → IsAllAdjacentAnswer (λ x y b. b ≡ is_before (key x) (key y)) ys r → not r ≡ repeats (map key xs)
  repeats-sorted xs ys r moved up h =
      let keys = IsPermutation-map key xs ys moved in
      sym (answers ys r up h) ∙ same_truth (repeats (map key ys)) (repeats (map key xs)) (moved-repeats (map key ys) (map key xs) (IsPermutation-sym (map key xs) (map key ys) keys)) (moved-repeats (map key xs) (map key ys) keys)
