-- Rings in the ascending order of their ids: the first key that passes a test is held under its id.
use Rattle.std.proofs.Common.{◌≡◌, ◌≢◌, ℕ, Bool, true, false, cond, List, [], ◌∷◌, Option, Some, None, Ordering, Less, Equal, Greater, refl, sym, ap, ◌∙◌, subst, inl, inr}
use Rattle.std.proofs.lemmas.Bool.{cases_Bool}
use Rattle.std.proofs.lemmas.Cmp.{nat_list_cmp_total}
use Rattle.std.specs.Ordering.{ordering_reverse, is_eq}
use Rattle.std.specs.Bool.{Decides}
use Rattle.std.specs.Cmp.Lexicographic.{texts_ties}
use Rattle.std.proofs.lemmas.Slice.Eq.{bytes_eq-Decides}
use Rattle.std.specs.List.{AllByRecursion}
use Rattle.std.specs.List.Sorted.{IsStrictlySortedBy}
use Rattle.std.specs.Map.{keys_of}
use Rattle.sigstore_types_parts.specs.Entries.{text_cmp}
use Rattle.sigstore_keys.specs.declared.keyring.HeldKey.{HeldKey}
use Rattle.sigstore_keys.specs.Keyring.{Ring, held_at, key_where, GoodUnder}
use Rattle.sigstore_keys.specs.declared.key.VerificationKey.{VerificationKey}
use Rattle.sigstore_keys.specs.Good.{Judge, is_good}

-- the first id whose key passes
abbrev pub first_passing : (HeldKey → Bool) → Ring → Option (List ℕ)
first_passing test [] = None
first_passing test (e ∷ ring) = cond (test e.1) (Some e.0) (first_passing test ring)

some_same : {A : Type 0} (x y : A) → Some x ≡ Some y → x ≡ y
some_same x y h = cc

true_false : {C : Type 0} → true ≡ false → C
true_false h = cc

pub not_so : (b r : Bool) → (b ≡ true → r ≡ true) → r ≡ false → b ≡ false
not_so true r so lack = sym (so refl) ∙ lack
not_so false r so lack = refl

some_none : {A C : Type 0} {x : A} → Some x ≡ None → C
some_none h = cc

equal_of : (o : Ordering) → is_eq o ≡ true → o ≡ Equal
equal_of Less h = cc
equal_of Equal h = refl
equal_of Greater h = cc

self_reverse : (o : Ordering) → o ≡ ordering_reverse o → o ≡ Equal
self_reverse Less h = cc
self_reverse Equal h = refl
self_reverse Greater h = cc

same_id : (id : List ℕ) → text_cmp id id ≡ Equal
same_id id = self_reverse (text_cmp id id) (nat_list_cmp_total.antisymm id id)

-- an id that is held is above one that is below all ids
above : (first id : List ℕ) (ring : Ring) (held : HeldKey) → AllByRecursion (λ y. text_cmp first y ≡ Less) (keys_of ring) → held_at id ring ≡ Some held
    → text_cmp id first ≡ Greater
above first id [] held all at = cc
above first id (e ∷ ring) held all at = elim (cases_Bool (is_eq (text_cmp id e.0))) [
  | inl it ↦ nat_list_cmp_total.congr id e.0 first (equal_of (text_cmp id e.0) it) ∙ nat_list_cmp_total.antisymm e.0 first ∙ ap ordering_reverse all.0
  | inr lack ↦ above first id ring held all.1 (rw lack at at)
]

-- the first key that passes is held under its id
pub first_is_held : (test : HeldKey → Bool) (ring : Ring) (id : List ℕ) → IsStrictlySortedBy text_cmp (keys_of ring) → first_passing test ring ≡ Some id
    → (held : HeldKey) × (held_at id ring ≡ Some held) × (test held ≡ true)
unfolding IsStrictlySortedBy
first_is_held test [] id sorted first = cc
first_is_held test (e ∷ ring) id sorted first = elim (cases_Bool (test e.1)) [
  | inl it ↦
      let same : e.0 ≡ id = some_same e.0 id (rw it at first) in
      (e.1, ap (λ (o : Ordering). cond (is_eq o) (Some e.1) (held_at id ring)) (subst (λ (k : List ℕ). text_cmp k e.0 ≡ Equal) same (same_id e.0)), it)
  | inr lack ↦
      let later = first_is_held test ring id sorted.1 (rw lack at first) in
      let far : text_cmp id e.0 ≡ Greater = above e.0 id ring later.0 sorted.0 later.1 in
      (later.0, rw far later.1, later.2)
]

-- where none passes, none that is held does
pub none_passes : (test : HeldKey → Bool) (ring : Ring) → first_passing test ring ≡ None → (id : List ℕ) (held : HeldKey) → held_at id ring ≡ Some held
    → test held ≡ false
none_passes test [] none id held at = cc
none_passes test (e ∷ ring) none id held at = elim (cases_Bool (test e.1)) [
  | inl it ↦ some_none (rw it at none)
  | inr lack ↦ elim (cases_Bool (is_eq (text_cmp id e.0))) [
    | inl here ↦ subst (λ (h : HeldKey). test h ≡ false) (some_same e.1 held (rw here at at)) lack
    | inr far ↦ none_passes test ring (rw lack at none) id held (rw far at at)
  ]
]

-- the order tells different ids apart
pub apart : (id other : List ℕ) → other ≢ id → is_eq (text_cmp id other) ≡ false
apart id other differ =
    let decided : Decides (is_eq (text_cmp id other)) (id ≡ other) = subst (λ b. Decides b (id ≡ other)) (texts_ties id other) (bytes_eq-Decides id other) in
    elim (cases_Bool (is_eq (text_cmp id other))) [
      | inl it ↦ absurd (differ (sym (decided.0 it)))
      | inr lack ↦ lack
    ]

-- ---- the keys that make a signature good

abbrev pub passes : Judge → List ℕ → List ℕ → HeldKey → Bool
passes accepts message signature held = is_good accepts held.key message signature

-- the first of what is left is the first of all
pub good_found : (accepts : Judge) (message signature : List ℕ) (ring left rest : Ring) (id : List ℕ) (held : HeldKey)
    → IsStrictlySortedBy text_cmp (keys_of ring) → first_passing (passes accepts message signature) ring ≡ first_passing (passes accepts message signature) left
    → left ≡ (id, held) ∷ rest → passes accepts message signature held ≡ true → GoodUnder accepts ring message signature id
good_found accepts message signature ring left rest id held sorted same step good =
    let test : HeldKey → Bool = passes accepts message signature in
    let first : first_passing test ring ≡ Some id =
    same ∙ ap (first_passing test) step ∙ ap (λ b. cond b (Some id) (first_passing test rest)) good in
    let found = first_is_held test ring id sorted first in
    record {
      key = found.0.key;
      held = ap (key_where (λ window. true)) found.1;
      good = found.2;
    }

pub passed_over : (accepts : Judge) (message signature : List ℕ) (ring left rest : Ring) (id : List ℕ) (held : HeldKey)
    → first_passing (passes accepts message signature) ring ≡ first_passing (passes accepts message signature) left
    → left ≡ (id, held) ∷ rest → passes accepts message signature held ≡ false
    → first_passing (passes accepts message signature) ring ≡ first_passing (passes accepts message signature) rest
passed_over accepts message signature ring left rest id held same step bad =
    let test : HeldKey → Bool = passes accepts message signature in
    same ∙ ap (first_passing test) step ∙ ap (λ b. cond b (Some id) (first_passing test rest)) bad

key_of_some : (entry : Option HeldKey) (key : VerificationKey) → key_where (λ window. true) entry ≡ Some key → (held : HeldKey) × (entry ≡ Some held) × (held.key ≡ key)
key_of_some None key is = cc
key_of_some (Some held) key is = (held, refl, some_same held.key key is)

pub none_good : (accepts : Judge) (message signature : List ℕ) (ring left : Ring)
    → first_passing (passes accepts message signature) ring ≡ first_passing (passes accepts message signature) left → left ≡ []
    → (id : List ℕ) → GoodUnder accepts ring message signature id → ⊥
none_good accepts message signature ring left same end id under =
    let test : HeldKey → Bool = passes accepts message signature in
    let found = key_of_some (held_at id ring) under.key under.held in
    let bad : test found.0 ≡ false = none_passes test ring (same ∙ ap (first_passing test) end) id found.0 found.1 in
    let good : test found.0 ≡ true = ap (λ (k : VerificationKey). is_good accepts k message signature) found.2 ∙ under.good in
    true_false (sym good ∙ bad)
