-- Listings in order: names that stand twice, and the search for a name.
use Rattle.std.proofs.Common.{◌≡◌, ◌⊎◌, inl, inr, ℕ, zero, suc, ◌+◌, ◌-◌, ◌<◌, ◌≤◌, List, [], ◌∷◌, Bool, true, false, cond, length, get_or, bytes_eq, Ordering, Less, Equal, Greater, Result, Ok, Err, refl, sym, ap, ◌∙◌, arith}
use Rattle.std.specs.Prelude.{Contains, IfOk}
use Rattle.std.specs.Result.{is_ok}
use Rattle.std.specs.List.{AllByRecursion, HoldsAt}
use Rattle.std.specs.List.Sorted.{IsSorted, IsStrictlySortedBy, IsSearchInRange, IsBinarySearchResult, IsPartitionPoint}
use Rattle.std.specs.Ordering.{is_eq, is_lt, ordering_reverse}
use Rattle.std.proofs.lemmas.Map.Text.{is_eq-slice_cmp}
use Rattle.std.proofs.lemmas.Bool.{cases_lt}
use Rattle.std.proofs.lemmas.Cmp.{nat_list_cmp_total, tied_itself}
use Rattle.std.proofs.lemmas.List.Sorted.{sorted_far, ranks_by, searchable_from_sorted}
use Rattle.std.proofs.lemmas.List.Sums.{sum_by-cons}
use Rattle.std.proofs.lemmas.Slice.Eq.{bytes_eq-Decides}
use Rattle.sigstore_types_parts.specs.Entries.{text_cmp}
use Rattle.release_gate.specs.Names.{times_in, IsFirstDoubled}

abbrev Names : Type 0
Names = List (List ℕ)

-- ---- the order of texts

same_bytes : (x : List ℕ) → bytes_eq x x ≡ true
same_bytes x = (bytes_eq-Decides x x).1 refl

-- neither is below the other: they are one
pub tied_same : (x y : List ℕ) → text_cmp x y ≡ Equal → x ≡ y
tied_same x y e = (bytes_eq-Decides x y).0 (sym (is_eq-slice_cmp x y) ∙ ap is_eq e)

pub never_below_itself : (x : List ℕ) → text_cmp x x ≡ Less → ⊥
never_below_itself x h = let e = tied_itself nat_list_cmp_total x in cc

turned : (x y : List ℕ) (o : Ordering) → text_cmp x y ≡ o → text_cmp y x ≡ ordering_reverse o
turned x y o e = nat_list_cmp_total.antisymm y x ∙ ap ordering_reverse e

-- in order and not one: below
below_of : (x y : List ℕ) (o : Ordering) → text_cmp x y ≡ o → is_lt (text_cmp y x) ≡ false → (x ≡ y → ⊥) → text_cmp x y ≡ Less
below_of x y Less e h apart = e
below_of x y Equal e h apart = absurd (apart (tied_same x y e))
below_of x y Greater e h apart = let r : is_lt (text_cmp y x) ≡ true = ap is_lt (turned x y Greater e) in cc

-- ---- neighbours

-- each name is below the next one
abbrev pub Climbs : Names → Type 0
Climbs names = (k : ℕ) (d : List ℕ) → k + 1 < length names → text_cmp (get_or names k d) (get_or names (k + 1) d) ≡ Less

all_above : (x y : List ℕ) (ys : Names) → text_cmp x y ≡ Less → AllByRecursion (λ z. text_cmp y z ≡ Less) ys → AllByRecursion (λ z. text_cmp x z ≡ Less) ys
all_above x y [] h all = tt
all_above x y (z ∷ zs) h all = (nat_list_cmp_total.trans x y z h all.0, all_above x y zs h all.1)

climbs_on : (x : List ℕ) (xs : Names) (k : ℕ) (d : List ℕ) → text_cmp (get_or (x ∷ xs) (suc k) d) (get_or (x ∷ xs) (suc k + 1) d) ≡ Less → text_cmp (get_or xs k d) (get_or xs (k + 1) d) ≡ Less
climbs_on x xs k d h =
    let n : suc k + 1 ≡ suc (k + 1) = omega arith in
    rw n at h

pub climbs_strict : (names : Names) → Climbs names → IsStrictlySortedBy text_cmp names
unfolding IsStrictlySortedBy
climbs_strict [] climbs = tt
climbs_strict (x ∷ []) climbs = (tt, tt)
climbs_strict (x ∷ y ∷ ys) climbs =
    let rest = climbs_strict (y ∷ ys) (λ k d lt. climbs_on x (y ∷ ys) k d (climbs (suc k) d (omega arith))) in
    let first : text_cmp x y ≡ Less = climbs zero x (omega arith) in
    ((first, all_above x y ys first rest.0), rest)

-- no two neighbours below this place are one
abbrev pub Apart : Names → ℕ → Type 0
Apart names at = (k : ℕ) (d : List ℕ) → k + 1 < at → k + 1 < length names → get_or names k d ≡ get_or names (k + 1) d → ⊥

pub apart_climbs : (names : Names) (at : ℕ) → IsSorted text_cmp names → length names ≤ at → Apart names at → Climbs names
apart_climbs names at sorted all apart k d lt =
    below_of (get_or names k d) (get_or names (k + 1) d) _ refl (sorted k d (omega arith) lt) (apart k d (omega arith) lt)

-- ---- counts

abbrev is_of : List ℕ → List ℕ → Bool
is_of name other = bytes_eq other name

none_left : (b : Bool) (n : ℕ) → b ≡ true → 1 ≤ cond b 1 0 + n
none_left true n e = omega arith
none_left false n e = cc

more_left : (b : Bool) (n m : ℕ) → m ≤ n → m ≤ cond b 1 0 + n
more_left true n m h = omega arith
more_left false n m h = omega arith

stands : (name : List ℕ) (names : Names) (i : ℕ) (d : List ℕ) → i < length names → get_or names i d ≡ name → 1 ≤ times_in names name
stands name [] i d lt e = absurd (omega arith)
stands name (x ∷ xs) zero d lt e =
    rw (sum_by-cons (λ y. cond (is_of name y) 1 0) x xs) (none_left (is_of name x) (times_in xs name) ((bytes_eq-Decides x name).1 e))
stands name (x ∷ xs) (suc i) d lt e =
    rw (sum_by-cons (λ y. cond (is_of name y) 1 0) x xs) (more_left (is_of name x) (times_in xs name) 1 (stands name xs i d (omega arith) e))

one_more : (b : Bool) (n : ℕ) → b ≡ true → 1 ≤ n → 2 ≤ cond b 1 0 + n
one_more true n e h = omega arith
one_more false n e h = cc

-- a name that stands at two places is counted twice
pub counted_twice : (name : List ℕ) (names : Names) (i j : ℕ) (d : List ℕ) → i < j → j < length names → get_or names i d ≡ name → get_or names j d ≡ name → 2 ≤ times_in names name
counted_twice name [] i j d lt within e f = absurd (omega arith)
counted_twice name (x ∷ xs) i zero d lt within e f = absurd (omega arith)
counted_twice name (x ∷ xs) zero (suc j) d lt within e f =
    rw (sum_by-cons (λ y. cond (is_of name y) 1 0) x xs)
    (one_more (is_of name x) (times_in xs name) ((bytes_eq-Decides x name).1 e) (stands name xs j d (omega arith) f))
counted_twice name (x ∷ xs) (suc i) (suc j) d lt within e f =
    rw (sum_by-cons (λ y. cond (is_of name y) 1 0) x xs)
    (more_left (is_of name x) (times_in xs name) 2 (counted_twice name xs i j d (omega arith) (omega arith) e f))

-- and the other way round
pub record Stands (names : Names) (name : List ℕ) : Type 0 where
  pub at : ℕ
  pub within : at < length names
  pub is : (d : List ℕ) → get_or names at d ≡ name

pub record StandsTwice (names : Names) (name : List ℕ) : Type 0 where
  pub first : ℕ
  pub second : ℕ
  pub apart : first < second
  pub within : second < length names
  pub first_is : (d : List ℕ) → get_or names first d ≡ name
  pub second_is : (d : List ℕ) → get_or names second d ≡ name

later : (x : List ℕ) (xs : Names) (name : List ℕ) → Stands xs name → Stands (x ∷ xs) name
later x xs name s = record { at = suc s.at; within = (let w = s.within in omega arith); is = s.is }

later_twice : (x : List ℕ) (xs : Names) (name : List ℕ) → StandsTwice xs name → StandsTwice (x ∷ xs) name
later_twice x xs name s = record {
  first = suc s.first;
  second = suc s.second;
  apart = (let a = s.apart in omega arith);
  within = (let w = s.within in omega arith);
  first_is = s.first_is;
  second_is = s.second_is;
}

pub counted : (name : List ℕ) (names : Names) → 1 ≤ times_in names name → Stands names name
counted name [] h = absurd (omega arith)
counted name (x ∷ xs) h = by_test (is_of name x) refl (rw (sum_by-cons (λ y. cond (is_of name y) 1 0) x xs) at h) (counted name xs)
  where
    by_test : (b : Bool) → is_of name x ≡ b → 1 ≤ cond (is_of name x) 1 0 + times_in xs name → (1 ≤ times_in xs name → Stands xs name) → Stands (x ∷ xs) name
    by_test true e h rest = record { at = zero; within = omega arith; is = λ d. (bytes_eq-Decides x name).0 e }
    by_test false e h rest = let k : 1 ≤ 0 + times_in xs name = rw e at h in later x xs name (rest (omega arith))

pub counted_more : (name : List ℕ) (names : Names) → 2 ≤ times_in names name → StandsTwice names name
counted_more name [] h = absurd (omega arith)
counted_more name (x ∷ xs) h = by_test (is_of name x) refl (rw (sum_by-cons (λ y. cond (is_of name y) 1 0) x xs) at h) (counted_more name xs)
  where
    by_test : (b : Bool) → is_of name x ≡ b → 2 ≤ cond (is_of name x) 1 0 + times_in xs name → (2 ≤ times_in xs name → StandsTwice xs name) → StandsTwice (x ∷ xs) name
    by_test true e h rest =
        let k : 2 ≤ 1 + times_in xs name = rw e at h in
        let s = counted name xs (omega arith) in
        record {
          first = zero;
          second = suc s.at;
          apart = omega arith;
          within = (let w = s.within in omega arith);
          first_is = λ d. (bytes_eq-Decides x name).0 e;
          second_is = s.is;
        }
    by_test false e h rest = let k : 2 ≤ 0 + times_in xs name = rw e at h in later_twice x xs name (rest (omega arith))

-- ---- the first name that stands twice

sorted_pair : (names : Names) → IsSorted text_cmp names → (i j : ℕ) (d : List ℕ) → i ≤ j → j < length names → is_lt (text_cmp (get_or names j d) (get_or names i d)) ≡ false
sorted_pair names sorted i j d le within = sorted_far (λ x y. is_lt (text_cmp x y)) (ranks_by nat_list_cmp_total (λ x. x)) names sorted i j d le within

-- one that is neither above nor below
between : (x y z : List ℕ) → x ≡ z → is_lt (text_cmp y x) ≡ false → is_lt (text_cmp z y) ≡ false → x ≡ y
between x y z same up down = by_order (text_cmp x y) refl
  where
    by_order : (o : Ordering) → text_cmp x y ≡ o → x ≡ y
    by_order Less e = let r : is_lt (text_cmp z y) ≡ true = ap (λ t. is_lt (text_cmp t y)) (sym same) ∙ ap is_lt e in cc
    by_order Equal e = tied_same x y e
    by_order Greater e = let r : is_lt (text_cmp y x) ≡ true = ap is_lt (turned x y Greater e) in cc

-- no name that stands twice is below the first that is its own neighbour
pub first_twice : (names : Names) (at : ℕ) (name : List ℕ) → IsSorted text_cmp names → at < length names → Apart names at → ((d : List ℕ) → get_or names at d ≡ name)
    → (other : List ℕ) → 1 < times_in names other → text_cmp other name ≡ Less → ⊥
first_twice names at name sorted within apart is other twice below =
    by_place (cases_lt s.second at)
  where
    s : StandsTwice names other
    s = counted_more other names twice

    by_place : (s.second < at) ⊎ (at ≤ s.second) → ⊥
    by_place (inl inside) =
        let low = s.apart in
        let one : get_or names s.first name ≡ get_or names (s.first + 1) name =
        between (get_or names s.first name) (get_or names (s.first + 1) name) (get_or names s.second name) (s.first_is name ∙ sym (s.second_is name))
        (sorted_pair names sorted s.first (s.first + 1) name (omega arith) (omega arith))
        (sorted_pair names sorted (s.first + 1) s.second name (omega arith) s.within) in
        apart s.first name (omega arith) (omega arith) one
    by_place (inr behind) =
        let not_below = sorted_pair names sorted at s.second name behind s.within in
        let is_below : is_lt (text_cmp (get_or names s.second name) (get_or names at name)) ≡ true =
        ap (λ t. is_lt (text_cmp t (get_or names at name))) (s.second_is name) ∙ ap (λ t. is_lt (text_cmp other t)) (is name) ∙ ap is_lt below in
        cc

pub is_first_doubled : (names : Names) (at : ℕ) (name : List ℕ) → IsSorted text_cmp names → 0 < at → at < length names → Apart names at
    → ((d : List ℕ) → get_or names (at - 1) d ≡ get_or names at d) → ((d : List ℕ) → get_or names at d ≡ name) → IsFirstDoubled names name
is_first_doubled names at name sorted some within apart one is = record {
  twice = (let two = counted_twice name names (at - 1) at name (omega arith) within (one name ∙ is name) (is name) in omega arith);
  first = first_twice names at name sorted within apart is;
}

-- ---- the search for a name

abbrev told_by : List ℕ → List ℕ → Ordering
told_by name other = text_cmp other name

pub search_finds : (names : Names) (name : List ℕ) (r : Result ℕ ℕ) (b : Bool) → b ≡ is_ok r → IsSearchInRange r (length names)
    → IfOk r (HoldsAt (λ y. text_cmp y name ≡ Equal) names) → b ≡ true → Contains names name
search_finds names name (Ok i) b is within found said = (i, within, tied_same _ name (found name))
search_finds names name (Err i) b is within found said = let both : false ≡ true = sym is ∙ said in cc

pub search_misses : (names : Names) (name : List ℕ) (r : Result ℕ ℕ) (b : Bool) → IsSorted text_cmp names → b ≡ is_ok r
    → IsBinarySearchResult (told_by name) names r → b ≡ false → Contains names name → ⊥
search_misses names name (Ok i) b sorted is found said among = let both : true ≡ false = sym is ∙ said in cc
search_misses names name (Err i) b sorted is found said among = by_place (cases_lt among.0 i)
  where
    parts : IsPartitionPoint (λ y. told_by name y ≡ Less) (λ y. told_by name y ≡ Greater) names i
    parts = found (searchable_from_sorted nat_list_cmp_total (λ x. x) names name sorted)

    itself : told_by name (get_or names among.0 name) ≡ Equal
    itself = ap (λ t. text_cmp t name) among.2 ∙ tied_itself nat_list_cmp_total name

    by_place : (among.0 < i) ⊎ (i ≤ among.0) → ⊥
    by_place (inl low) = let below = parts.0 among.0 name (omega arith) low in let both = sym itself ∙ below in cc
    by_place (inr high) = let above = parts.1 among.0 name high among.1 in let both = sym itself ∙ above in cc
