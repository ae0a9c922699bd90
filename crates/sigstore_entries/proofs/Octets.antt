-- What a text in base64 spells is octets, and is spelled again by the text that is written for it.
use Rattle.std.proofs.Common.{◌≡◌, ℕ, zero, suc, ◌+◌, ◌*◌, ◌<◌, ◌==◌, nat_lt, List, [], ◌∷◌, ◌++◌, take, slice_index, slice_set, length, Bool, true, false, ◌||◌, cond, Some, None, Option, Result, Ok, Err, refl, ap, subst, arith, inl, inr}
use Rattle.std.specs.List.{list_all}
use Rattle.std.proofs.lemmas.Bool.{cases_Bool, cases_eq, cases_lt, ltb-true}
use Rattle.std.proofs.lemmas.List.{get_or-set_same, get_or-set_other, set_past}
use Rattle.base64.specs.declared.decode.DecodeError.{DecodeError}
use Rattle.base64.proofs.Decoding.{IsLeftover}
use Rattle.base64.specs.Decode.{decode_group, or_else, symbol_error, group_error, group_bytes, groups_error, groups_bytes, groups_before_last, lone_error, push_leftover, no_leftover, scan_steps, scan_last, scan_bytes, decode_outcome}
use Rattle.base64.specs.Engines.{standard}
use Rattle.base64.specs.GeneralPurpose.{IsBytes, encode_of, decode_of}
use Rattle.base64.proofs.EngineFacts.{decode_of-encode_of, decode_of_bytes}
use Rattle.foundation.specs.Results.{and_true}

-- what a predicate is of
abbrev of : {A : Type 0} → (A → ℕ → Type 0) → Type 0
of {A} holds = A

-- the state of the last group
abbrev Leftover : Type 0
Leftover = of IsLeftover

-- ---- lists of octets

joined : (a b : List ℕ) → IsBytes a → IsBytes b → IsBytes (a ++ b)
joined [] b p q i = q i
joined (x ∷ a) b p q zero = p 0
joined (x ∷ a) b p q (suc i) = joined a b (λ k. p (suc k)) q i

taken : (n : ℕ) (a : List ℕ) → IsBytes a → IsBytes (take n a)
taken zero a p i = omega arith
taken (suc n) [] p i = omega arith
taken (suc n) (x ∷ a) p zero = p 0
taken (suc n) (x ∷ a) p (suc i) = taken n a (λ k. p (suc k)) i

-- ---- the table: each place has a symbol's value, or 255

abbrev is_value : ℕ → Bool
is_value v = (v == 255) || nat_lt v 64

abbrev AreValues : List ℕ → Type 0
AreValues table = list_all is_value table ≡ true

value_at : (table : List ℕ) (x : ℕ) → AreValues table → is_value (slice_index table x) ≡ true
value_at [] x h = refl
value_at (v ∷ table) zero h = (and_true (is_value v) _ h).0
value_at (v ∷ table) (suc x) h = value_at table x (and_true (is_value v) _ h).1

value_small : (v : ℕ) → is_value v ≡ true → (v == 255) ≡ false → v < 64
value_small v h e = ltb-true v 64 (rw e at h)

-- ---- errors that aren't there

not_raised : (b : Bool) (e : DecodeError) → cond b (Some e) None ≡ None → b ≡ false
not_raised true e h = cc h
not_raised false e h = refl

neither : (x y : Option DecodeError) → or_else x y ≡ None → (x ≡ None) × (y ≡ None)
neither None y h = (refl, h)
neither (Some e) y h = cc h

-- ---- the groups

group_octets : (a b c d : ℕ) → a < 64 → b < 64 → c < 64 → d < 64 → IsBytes (decode_group a b c d)
group_octets a b c d p q r s zero = omega arith
group_octets a b c d p q r s (suc zero) = omega arith
group_octets a b c d p q r s (suc (suc zero)) = omega arith
group_octets a b c d p q r s (suc (suc (suc i))) = omega arith

symbol : (table s : List ℕ) (i : ℕ) → AreValues table → symbol_error table s i ≡ None → slice_index table (slice_index s i) < 64
symbol table s i values h = value_small _ (value_at table (slice_index s i) values) (not_raised _ _ h)

one_group : (table s : List ℕ) (i : ℕ) → AreValues table → group_error table s i ≡ None → IsBytes (group_bytes table s i)
one_group table s i values h =
    let a = neither (symbol_error table s i) _ h in
    let b = neither (symbol_error table s (i + 1)) _ a.1 in
    let c = neither (symbol_error table s (i + 2)) _ b.1 in
    group_octets _ _ _ _ (symbol table s i values a.0) (symbol table s (i + 1) values b.0) (symbol table s (i + 2) values c.0) (symbol table s (i + 3) values c.1)

groups : (table s : List ℕ) (n : ℕ) → AreValues table → groups_error table s n ≡ None → IsBytes (groups_bytes table s n)
unfolding groups_error groups_bytes
groups table s zero values h = λ i. omega arith
groups table s (suc n) values h =
    let parts = neither (groups_error table s n) _ h in
    joined (groups_bytes table s n) (group_bytes table s (4 * n)) (groups table s n values parts.0) (one_group table s (4 * n) values parts.1)

-- ---- the last group

-- its symbols' values
abbrev AreSmall : Leftover → Type 0
AreSmall state = (k : ℕ) → slice_index state.morsels k < 64

set_small : (xs : List ℕ) (i v k : ℕ) → ((j : ℕ) → slice_index xs j < 64) → v < 64 → slice_index (slice_set xs i v) k < 64
set_small xs i v k all small = elim (cases_eq k i) [
  | inl same ↦ elim (cases_lt i (length xs)) [
    | inl fits ↦ rw (same, get_or-set_same xs i v 0 fits) small
    | inr past ↦ rw (set_past xs i v past) (all k)
  ]
  | inr other ↦ rw (get_or-set_other xs i k v 0 other) (all k)
]

abbrev state_in : Result Leftover DecodeError → Leftover → Leftover
state_in (Ok state) other = state
state_in (Err e) other = other

pushed : (table : List ℕ) (pad at : ℕ) (state : Leftover) (i b : ℕ) (next : Leftover) → AreValues table → AreSmall state
    → push_leftover table pad at state i b ≡ Ok next → AreSmall next
pushed table pad at state i b next values small e = elim (cases_Bool (b == pad)) [
  | inl p ↦ elim (cases_Bool (nat_lt i 2)) [
    | inl l ↦ cc (rw (p, l) at e)
    | inr l ↦ let n = ap (λ (x : Result Leftover DecodeError). state_in x state) (rw (p, l) at e) in rw (← n) small
  ]
  | inr p ↦ elim (cases_Bool (nat_lt 0 state.padding_count)) [
    | inl a ↦ cc (rw (p, a) at e)
    | inr a ↦ elim (cases_Bool (slice_index table b == 255)) [
      | inl v ↦ cc (rw (p, a, v) at e)
      | inr v ↦
          let n = ap (λ (x : Result Leftover DecodeError). state_in x state) (rw (p, a, v) at e) in
          rw (← n) (λ k. set_small state.morsels state.morsels_count (slice_index table b) k small (value_small _ (value_at table b values) v))
    ]
  ]
]

scanned : (table : List ℕ) (pad at : ℕ) (r : Result Leftover DecodeError) (i : ℕ) (bs : List ℕ) (last : Leftover) → AreValues table
    → ((state : Leftover) → r ≡ Ok state → AreSmall state) → scan_steps table pad at r i bs ≡ Ok last → AreSmall last
unfolding scan_steps
scanned table pad at (Err e) i bs last values small h = cc h
scanned table pad at (Ok state) i [] last values small h = small last h
scanned table pad at (Ok state) i (b ∷ bs) last values small h =
    scanned table pad at (push_leftover table pad at state i b) (i + 1) bs last values (λ next e. pushed table pad at state i b next values (small state refl) e) h

zeros : (k : ℕ) → slice_index (0 ∷ 0 ∷ 0 ∷ 0 ∷ []) k < 64
zeros zero = omega arith
zeros (suc zero) = omega arith
zeros (suc (suc zero)) = omega arith
zeros (suc (suc (suc zero))) = omega arith
zeros (suc (suc (suc (suc k)))) = omega arith

first_small : (state : Leftover) → ◌≡◌ {A = Result Leftover DecodeError} (Ok no_leftover) (Ok state) → AreSmall state
first_small state e = subst AreSmall (ap (λ (x : Result Leftover DecodeError). state_in x no_leftover) e) zeros

last_octets : (r : Result Leftover DecodeError) → ((state : Leftover) → r ≡ Ok state → AreSmall state) → IsBytes (scan_bytes r)
last_octets (Err e) small = λ i. omega arith
last_octets (Ok state) small =
    let all = small state refl in
    taken _ _ (group_octets _ _ _ _ (all 0) (all 1) (all 2) (all 3))

-- ---- the whole

outcome_ok : (e : Option DecodeError) (bytes b : List ℕ) → decode_outcome e bytes ≡ Ok b → e ≡ None
outcome_ok None bytes b h = refl
outcome_ok (Some e) bytes b h = cc h

-- what is spelled is octets
pub octets : (s b : List ℕ) → decode_of standard s ≡ Ok b → IsBytes b
octets s b h =
    let table = standard.decode_table in
    let n = groups_before_last (length s) in
    let none = outcome_ok _ _ b h in
    let first = neither (lone_error table standard.padding.value s) _ none in
    let second = neither (groups_error table s n) _ first.1 in
    let values : AreValues table = refl in
    let front = groups table s n values second.0 in
    let back = last_octets (scan_last table standard.padding.value (4 * n) s) (λ state e. scanned table standard.padding.value (4 * n) (Ok no_leftover) 0 _ state values first_small e) in
    decode_of_bytes standard s b (joined _ _ front back) h

-- and is spelled again
pub spelled : (s b : List ℕ) → decode_of standard s ≡ Ok b → decode_of standard (encode_of standard b) ≡ Ok b
spelled s b h = decode_of-encode_of standard b refl (octets s b h)
