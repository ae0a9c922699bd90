-- Digits of civil times that were written are read again.
use Rattle.std.proofs.Common.{◌≡◌, ℕ, ◌+◌, ◌-◌, ◌*◌, ◌/◌, ◌%◌, ◌<◌, ◌≤◌, true, false, ltb, List, ◌++◌, Ok, refl, arith, inl, inr}
use Rattle.std.proofs.lemmas.Bool.{cases_lt, lt-ltb, le-ltb}
use Rattle.jiff_core.proofs.CalendarLemmas.{days_in_month_bounds}
use Rattle.std.proofs.Common.{pos}
use Rattle.der_core.specs.declared.civil.Civil.{Civil}
use Rattle.der_core.proofs.Moments.{is_real}
use Rattle.der_core.specs.Times.{digits, rest_digits, pair, is_civil, civil_at, generalized_of, utc_of, full_year}

-- ---- digits

pub pair-again : (n : ℕ) → n < 100 → pair (48 + n / 10) (48 + n % 10) ≡ Ok n
pair-again n lt =
    let a : ltb 47 (48 + n / 10) ≡ true = lt-ltb _ _ (omega arith) in
    let b : ltb (48 + n / 10) 58 ≡ true = lt-ltb _ _ (omega arith) in
    let c : ltb 47 (48 + n % 10) ≡ true = lt-ltb _ _ (omega arith) in
    let d : ltb (48 + n % 10) 58 ≡ true = lt-ltb _ _ (omega arith) in
    let is : 10 * (48 + n / 10 - 48) + (48 + n % 10 - 48) ≡ n = omega arith in
    rw (a, b, c, d, is) refl

year_again : (y : ℕ) → 100 * (y / 100) + y % 100 ≡ y
year_again y = omega arith

pub generalized-again : (c : Civil) (out : List ℕ) → is_civil c ≡ true → out ≡ digits (c.year / 100) ++ digits (c.year % 100) ++ rest_digits c → generalized_of out ≡ Ok c
unfolding generalized_of civil_at
generalized-again c out ok e =
    let f = is_real c ok in
    let year = year_again c.year in
    let a = pair-again (c.year / 100) (omega (arith, f.year)) in
    let b = pair-again (c.year % 100) (omega arith) in
    let m = pair-again c.month (omega (arith, f.month_high)) in
    let d = pair-again c.day (omega (arith, f.day_high, days_in_month_bounds (pos c.year) c.month)) in
    let h = pair-again c.hour (omega (arith, f.hour)) in
    let n = pair-again c.minute (omega (arith, f.minute)) in
    let s = pair-again c.second (omega (arith, f.second)) in
    rw e (rw (a, b, year, m, d, h, n, s) (rw ok refl))

full_year-again : (y : ℕ) → 1950 ≤ y → y < 2050 → full_year (y % 100) ≡ y
full_year-again y low high = elim (cases_lt y 2000) [
  | inl a ↦ let t : ltb (y % 100) 50 ≡ false = le-ltb _ _ (omega arith) in rw t (omega arith)
  | inr a ↦ let t : ltb (y % 100) 50 ≡ true = lt-ltb _ _ (omega arith) in rw t (omega arith)
]

pub utc-again : (c : Civil) (out : List ℕ) → is_civil c ≡ true → 1950 ≤ c.year → c.year < 2050 → out ≡ digits (c.year % 100) ++ rest_digits c → utc_of out ≡ Ok c
unfolding utc_of civil_at
utc-again c out ok low high e =
    let f = is_real c ok in
    let year = full_year-again c.year low high in
    let b = pair-again (c.year % 100) (omega arith) in
    let m = pair-again c.month (omega (arith, f.month_high)) in
    let d = pair-again c.day (omega (arith, f.day_high, days_in_month_bounds (pos c.year) c.month)) in
    let h = pair-again c.hour (omega (arith, f.hour)) in
    let n = pair-again c.minute (omega (arith, f.minute)) in
    let s = pair-again c.second (omega (arith, f.second)) in
    rw e (rw (b, year, m, d, h, n, s) (rw ok refl))
