-- Keys that are gathered once each: they differ, keep what holds of all, and none is lost.
use Rattle.std.proofs.Common.{◌≡◌, ◌⊎◌, inl, inr, ℕ, List, [], ◌∷◌, ◌++◌, Bool, true, false, ◌||◌, if◌then◌else◌, bytes_eq, refl, sym, ◌∙◌, subst}
use Rattle.std.specs.List.{AllByRecursion, IsDistinct, list_any}
use Rattle.std.proofs.lemmas.List.Folds.{list_any-append}
use Rattle.std.proofs.lemmas.Slice.Eq.{bytes_eq-Decides}
use Rattle.sigstore_keys.specs.Distinct.{is_among, with_id, each_once}

-- ---- what holds of all

all_push : (P : List ℕ → Type 0) (xs : List (List ℕ)) (x : List ℕ) → AllByRecursion P xs → P x → AllByRecursion P (xs ++ x ∷ [])
all_push P [] x all here = (here, tt)
all_push P (y ∷ xs) x all here = (all.0, all_push P xs x all.1 here)

kept_one : (P : List ℕ → Type 0) (id : List ℕ) (seen : List (List ℕ)) (b : Bool) → AllByRecursion P seen → P id → AllByRecursion P (if b then seen else seen ++ id ∷ [])
kept_one P id seen true all here = all
kept_one P id seen false all here = all_push P seen id all here

pub kept : (P : List ℕ → Type 0) (seen ids : List (List ℕ)) → AllByRecursion P seen → AllByRecursion P ids → AllByRecursion P (each_once seen ids)
kept P seen [] before all = before
kept P seen (id ∷ ids) before all = kept P (with_id id seen) ids (kept_one P id seen (is_among id seen) before all.0) all.1

-- ---- they differ

true_false : true ≡ false → ⊥
true_false h = cc

turned : (x y : List ℕ) (b : Bool) → bytes_eq y x ≡ b → bytes_eq x y ≡ false → bytes_eq y x ≡ false
turned x y true is other = absurd (true_false (sym ((bytes_eq-Decides x y).1 (sym ((bytes_eq-Decides y x).0 is))) ∙ other))
turned x y false is other = is

or_false : (a b : Bool) → (a || b) ≡ false → (a ≡ false) × (b ≡ false)
or_false false b h = (refl, h)
or_false true b h = cc

apart : (id : List ℕ) (ids : List (List ℕ)) → list_any (λ other. bytes_eq id other) ids ≡ false → AllByRecursion (λ x. bytes_eq x id ≡ false) ids
apart id [] h = tt
apart id (x ∷ ids) h =
    let both = or_false (bytes_eq id x) (list_any (λ other. bytes_eq id other) ids) h in
    (turned id x (bytes_eq x id) refl both.0, apart id ids both.1)

distinct_push : (ids : List (List ℕ)) (id : List ℕ) → IsDistinct bytes_eq ids → AllByRecursion (λ x. bytes_eq x id ≡ false) ids → IsDistinct bytes_eq (ids ++ id ∷ [])
unfolding IsDistinct
distinct_push [] id d a = (tt, tt)
distinct_push (x ∷ ids) id d a = (all_push (λ y. bytes_eq x y ≡ false) ids id d.0 a.0, distinct_push ids id d.1 a.1)

distinct_one : (id : List ℕ) (seen : List (List ℕ)) (b : Bool) → is_among id seen ≡ b → IsDistinct bytes_eq seen → IsDistinct bytes_eq (if b then seen else seen ++ id ∷ [])
distinct_one id seen true is d = d
distinct_one id seen false is d = distinct_push seen id d (apart id seen is)

pub distinct : (seen ids : List (List ℕ)) → IsDistinct bytes_eq seen → IsDistinct bytes_eq (each_once seen ids)
distinct seen [] d = d
distinct seen (id ∷ ids) d = distinct (with_id id seen) ids (distinct_one id seen (is_among id seen) refl d)

pub distinct_none : IsDistinct bytes_eq []
unfolding IsDistinct
distinct_none = tt

-- ---- none is lost

abbrev pub Has : List ℕ → List (List ℕ) → Type 0
Has key keys = list_any (λ other. bytes_eq key other) keys ≡ true

or_true : (a b : Bool) → (a || b) ≡ true → (a ≡ true) ⊎ (b ≡ true)
or_true true b h = inl refl
or_true false b h = inr h

or_left : (a b : Bool) → a ≡ true → (a || b) ≡ true
or_left true b h = refl
or_left false b h = cc

or_right : (a b : Bool) → b ≡ true → (a || b) ≡ true
or_right true b h = refl
or_right false b h = h

has_before : (key id : List ℕ) (seen : List (List ℕ)) (b : Bool) → Has key seen → Has key (if b then seen else seen ++ id ∷ [])
has_before key id seen true has = has
has_before key id seen false has =
    list_any-append (λ other. bytes_eq key other) seen (id ∷ []) ∙ or_left (list_any (λ other. bytes_eq key other) seen) (bytes_eq key id || false) has

has_here : (key id : List ℕ) (seen : List (List ℕ)) (b : Bool) → is_among id seen ≡ b → bytes_eq key id ≡ true → Has key (if b then seen else seen ++ id ∷ [])
has_here key id seen true is same = subst (λ k. Has k seen) (sym ((bytes_eq-Decides key id).0 same)) is
has_here key id seen false is same =
    list_any-append (λ other. bytes_eq key other) seen (id ∷ [])
    ∙ or_right (list_any (λ other. bytes_eq key other) seen) (bytes_eq key id || false) (or_left (bytes_eq key id) false same)

taken_or_left : (key id : List ℕ) (seen ids : List (List ℕ)) → (bytes_eq key id ≡ true) ⊎ Has key ids → Has key (with_id id seen) ⊎ Has key ids
taken_or_left key id seen ids (inl here) = inl (has_here key id seen (is_among id seen) refl here)
taken_or_left key id seen ids (inr rest) = inr rest

pub lost_none : (key : List ℕ) (seen ids : List (List ℕ)) → Has key seen ⊎ Has key ids → Has key (each_once seen ids)
lost_none key seen [] (inl before) = before
lost_none key seen [] (inr none) = cc
lost_none key seen (id ∷ ids) (inl before) = lost_none key (with_id id seen) ids (inl (has_before key id seen (is_among id seen) before))
lost_none key seen (id ∷ ids) (inr has) =
    lost_none key (with_id id seen) ids (taken_or_left key id seen ids (or_true (bytes_eq key id) (list_any (λ other. bytes_eq key other) ids) has))
