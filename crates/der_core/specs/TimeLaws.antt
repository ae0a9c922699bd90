-- Proofs: what is read as a time is a real civil time, with its year.
use Rattle.std.proofs.Common.{◌≡◌, ℕ, ◌+◌, ◌-◌, ◌*◌, ◌<◌, ◌≤◌, Bool, true, false, ltb, eqb, List, length, Ok, refl, ap}
use Rattle.std.proofs.Common.{subst, arith, inl, inr}
use Rattle.std.specs.Prelude.{◌&&◌, slice_index, nat_lt}
use Rattle.std.proofs.lemmas.Bool.{cases_lt, lt-ltb, le-ltb, ltb-true}
use Rattle.der_grammar.specs.declared.error.DerError.TheVariants.{Value}
use Rattle.der_grammar.specs.TlvLaws.{bind_ok, passed, ok_is}
use Rattle.der_core.specs.declared.civil.Civil.{Civil}
use Rattle.der_core.specs.Oid.{is_digit}
use Rattle.der_core.specs.Times.{pair, pair_at, real, is_civil, civil_at, generalized_of, utc_of, full_year}

pub left : (a b : Bool) → (a && b) ≡ true → a ≡ true
left true b e = refl
left false b e = absurd cc

pub right : (a b : Bool) → (a && b) ≡ true → b ≡ true
right true b e = e
right false b e = absurd cc

-- ---- what is read is real, and has the year

real_is : (c d : Civil) → real c ≡ Ok d → (c ≡ d) × (is_civil d ≡ true)
real_is c d e = let p = passed (is_civil c) Value (Ok c) d e in let is = ok_is c d p.1 in
    (is, subst (λ (z : Civil). is_civil z ≡ true) is p.0)

pub civil_at-is : (y : ℕ) (bytes : List ℕ) (i : ℕ) (c : Civil) → civil_at y bytes i ≡ Ok c → (y ≡ c.year) × (is_civil c ≡ true)
unfolding civil_at
civil_at-is y bytes i c e =
    let p = passed (eqb (slice_index bytes (i + 10)) 90) Value _ c e in
    let m = bind_ok (pair_at bytes i) _ c p.1 in
    let d = bind_ok (pair_at bytes (i + 2)) _ c m.2 in
    let h = bind_ok (pair_at bytes (i + 4)) _ c d.2 in
    let n = bind_ok (pair_at bytes (i + 6)) _ c h.2 in
    let s = bind_ok (pair_at bytes (i + 8)) _ c n.2 in
    let r = real_is _ c s.2 in
    (ap (λ (z : Civil). z.year) r.0, r.1)

pub generalized-real : (bytes : List ℕ) (c : Civil) → generalized_of bytes ≡ Ok c → is_civil c ≡ true
unfolding generalized_of
generalized-real bytes c e =
    let p = passed (eqb (length bytes) 15) Value _ c e in
    let a = bind_ok (pair_at bytes 0) _ c p.1 in
    let b = bind_ok (pair_at bytes 2) _ c a.2 in
    (civil_at-is (100 * a.0 + b.0) bytes 4 c b.2).1

pair-below : (a b n : ℕ) → pair a b ≡ Ok n → n < 100
pair-below a b n e =
    let p = passed (is_digit a && is_digit b) Value (Ok (10 * (a - 48) + (b - 48))) n e in
    let is : 10 * (a - 48) + (b - 48) ≡ n = ok_is (10 * (a - 48) + (b - 48)) n p.1 in
    let high : a < 58 = ltb-true a 58 (right (nat_lt 47 a) (nat_lt a 58) (left (is_digit a) (is_digit b) p.0)) in
    let low : b < 58 = ltb-true b 58 (right (nat_lt 47 b) (nat_lt b 58) (right (is_digit a) (is_digit b) p.0)) in
    omega arith

pub utc-real : (bytes : List ℕ) (c : Civil) → utc_of bytes ≡ Ok c → is_civil c ≡ true
unfolding utc_of
utc-real bytes c e =
    let p = passed (eqb (length bytes) 13) Value _ c e in
    let a = bind_ok (pair_at bytes 0) _ c p.1 in
    (civil_at-is (full_year a.0) bytes 2 c a.2).1

full_year-within : (y : ℕ) → y < 100 → (1950 ≤ full_year y) × (full_year y < 2050)
full_year-within y lt = elim (cases_lt y 50) [
  | inl a ↦ let t : ltb y 50 ≡ true = lt-ltb _ _ a in rw t (omega arith, omega arith)
  | inr a ↦ let t : ltb y 50 ≡ false = le-ltb _ _ a in rw t (omega arith, omega arith)
]

pub utc-year : (bytes : List ℕ) (c : Civil) → utc_of bytes ≡ Ok c → (1950 ≤ c.year) × (c.year < 2050)
unfolding utc_of
utc-year bytes c e =
    let p = passed (eqb (length bytes) 13) Value _ c e in
    let a = bind_ok (pair_at bytes 0) _ c p.1 in
    let w = full_year-within a.0 (pair-below (slice_index bytes 0) (slice_index bytes 1) a.0 a.1) in
    let is = (civil_at-is (full_year a.0) bytes 2 c a.2).0 in
    (omega (arith, w.0, is), omega (arith, w.1, is))
