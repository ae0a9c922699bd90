-- Nanoseconds of civil times, and that each second has one civil time.
use Rattle.std.proofs.Common.{◌≡◌, ℕ, ◌+◌, ◌*◌, ◌<◌, ◌≤◌, ℤ, pos, negsuc, ◌+ℤ◌, ◌*ℤ◌, ◌≤ℤ◌, ◌<ℤ◌, Bool, true, refl, sym, ◌∙◌, ap, subst, arith, inl}
use Rattle.std.specs.Prelude.{◌&&◌, nat_lt, nat_le}
use Rattle.std.proofs.Math.IntN.{nat_abs}
use Rattle.std.proofs.lemmas.Bool.{leb-true, ltb-true, lt-ltb, le-leb}
use Rattle.jiff.proofs.SpanFacts.{signed_arith}
use Rattle.jiff_core.specs.Calendar.{days_in_month, days_from_civil}
use Rattle.jiff_core.specs.Date.{epoch_day}
use Rattle.jiff_core.specs.DateTime.{civil_nanos}
use Rattle.jiff_core.specs.declared.civil.date.Date.{Date}
use Rattle.jiff_core.specs.declared.civil.datetime.DateTime.{DateTime}
use Rattle.jiff_core.proofs.DateLemmas.{epoch_day_injective, epoch_day-lt}
use Rattle.jiff_core.proofs.DateTimeLemmas.{civil_nanos-parts, civil_nanos_injective, civil_nanos-lt, time_nanos_injective}
use Rattle.der_core.specs.declared.civil.Civil.{Civil}
use Rattle.der_core.specs.TimeLaws.{left, right}
use Rattle.der_core.specs.Times.{is_civil, nanos_of, IsWithinSecond}

pub sum_is : (days : ℤ) (second : ℕ) → days *ℤ pos 86_400_000_000_000 +ℤ pos (second * 1_000_000_000 + 0) ≡ (days *ℤ pos 86_400 +ℤ pos second) *ℤ pos 1_000_000_000
sum_is days second = omega (arith, signed_arith)

pub record IsReal (c : Civil) : Type 0 where
  pub year : c.year < 10000
  pub month_low : 1 ≤ c.month
  pub month_high : c.month ≤ 12
  pub day_low : 1 ≤ c.day
  pub day_high : c.day ≤ days_in_month (pos c.year) c.month
  pub hour : c.hour < 24
  pub minute : c.minute < 60
  pub second : c.second < 60

pub is_real : (c : Civil) → is_civil c ≡ true → IsReal c
is_real c e =
    let A : Bool = nat_lt c.year 10000 in
    let B : Bool = nat_lt 0 c.month in
    let C : Bool = nat_lt c.month 13 in
    let D : Bool = nat_lt 0 c.day in
    let E : Bool = nat_le c.day (days_in_month (pos c.year) c.month) in
    let F : Bool = nat_lt c.hour 24 in
    let G : Bool = nat_lt c.minute 60 in
    let H : Bool = nat_lt c.second 60 in
    let e6 = left (A && B && C && D && E && F && G) H e in
    let e5 = left (A && B && C && D && E && F) G e6 in
    let e4 = left (A && B && C && D && E) F e5 in
    let e3 = left (A && B && C && D) E e4 in
    let e2 = left (A && B && C) D e3 in
    let e1 = left (A && B) C e2 in
    let low : 0 < c.month = ltb-true _ _ (right A B e1) in
    let high : c.month < 13 = ltb-true _ _ (right (A && B) C e2) in
    let some : 0 < c.day = ltb-true _ _ (right (A && B && C) D e3) in
    record {
      year = ltb-true _ _ (left A B e1);
      month_low = omega arith;
      month_high = omega arith;
      day_low = omega arith;
      day_high = leb-true _ _ (right (A && B && C && D) E e4);
      hour = ltb-true _ _ (right (A && B && C && D && E) F e5);
      minute = ltb-true _ _ (right (A && B && C && D && E && F) G e6);
      second = ltb-true _ _ (right (A && B && C && D && E && F && G) H e);
    }

pub last_day : (c : Civil) → is_civil c ≡ true → c.day ≤ days_in_month (pos c.year) c.month
last_day c e = (is_real c e).day_high

abbrev date_of : (c : Civil) → IsReal c → Date
date_of c f = record {
  year = pos c.year;
  month = c.month;
  day = c.day;
  year_in = (omega (arith, signed_arith, f.year), omega (arith, signed_arith, f.year));
  month_in = (f.month_low, f.month_high);
  day_in = (f.day_low, f.day_high);
}

abbrev datetime : (c : Civil) → IsReal c → DateTime
datetime c f = record {
  date = date_of c f;
  time = record {
    hour = c.hour;
    minute = c.minute;
    second = c.second;
    subsec_nanosecond = 0;
    hour_in = f.hour;
    minute_in = f.minute;
    second_in = f.second;
    subsec_in = omega arith;
  };
}

nanos_are : (c : Civil) (f : IsReal c) → civil_nanos (datetime c f) ≡ nanos_of c
unfolding nanos_of
nanos_are c f = civil_nanos-parts (datetime c f) ∙ sum_is (days_from_civil (pos c.year) c.month c.day) (c.hour * 3600 + c.minute * 60 + c.second)

same_second : (n : ℤ) (c d : Civil) → IsWithinSecond n c → IsWithinSecond n d → nanos_of c ≡ nanos_of d
unfolding nanos_of
same_second n c d h k = omega (arith, signed_arith, h.0, h.1, k.0, k.1)

abbrev made : ℕ → ℕ → ℕ → ℕ → ℕ → ℕ → Civil
made y m d h n s = record { year = y; month = m; day = d; hour = h; minute = n; second = s }

made_same : (y m d h n s y' m' d' h' n' s' : ℕ) → y ≡ y' → m ≡ m' → d ≡ d' → h ≡ h' → n ≡ n' → s ≡ s' → made y m d h n s ≡ made y' m' d' h' n' s'
made_same y m d h n s y' m' d' h' n' s' p q r t u v = rw (p, q, r, t, u, v) refl

same_fields : (c d : Civil) → c.year ≡ d.year → c.month ≡ d.month → c.day ≡ d.day → c.hour ≡ d.hour → c.minute ≡ d.minute → c.second ≡ d.second → c ≡ d
same_fields c d p q r s t u = made_same c.year c.month c.day c.hour c.minute c.second d.year d.month d.day d.hour d.minute d.second p q r s t u

-- a second has one civil time
pub one_civil : (n : ℤ) (c d : Civil) → is_civil c ≡ true → is_civil d ≡ true → IsWithinSecond n c → IsWithinSecond n d → c ≡ d
one_civil n c d p q h k =
    let f = is_real c p in
    let g = is_real d q in
    let i = civil_nanos_injective (datetime c f) (datetime d g) (nanos_are c f ∙ same_second n c d h k ∙ sym (nanos_are d g)) in
    let j = epoch_day_injective (date_of c f) (date_of d g) i.0 in
    let t = time_nanos_injective (datetime c f).time (datetime d g).time i.1 in
    let year : c.year ≡ d.year = omega (arith, signed_arith, j.0) in
    same_fields c d year j.1 j.2 t.0 t.1 t.2

-- a moment before the year 0 is in no second of a civil time
pub none_before : (n : ℤ) (dt : DateTime) (c : Civil) → civil_nanos dt ≡ n → dt.date.year <ℤ pos 0 → is_civil c ≡ true → IsWithinSecond n c → ⊥
none_before n dt c e before p h =
    let f = is_real c p in
    let day = epoch_day-lt dt.date (date_of c f) (inl (omega (arith, signed_arith, before))) in
    let lt = civil_nanos-lt dt (datetime c f) day in
    absurd (omega (arith, signed_arith, lt, e, nanos_are c f, h.0))

all_true : (a b c d e f g h : Bool) → a ≡ true → b ≡ true → c ≡ true → d ≡ true → e ≡ true → f ≡ true → g ≡ true → h ≡ true → (a && b && c && d && e && f && g && h) ≡ true
all_true a b c d e f g h p q r s t u v w = rw (p, q, r, s, t, u, v, w) refl

abbrev pub of_datetime : DateTime → ℕ → Civil
of_datetime dt y = record { year = y; month = dt.date.month; day = dt.date.day; hour = dt.time.hour; minute = dt.time.minute; second = dt.time.second }

-- the second of a datetime from the year 0 on
pub found_in : (n : ℤ) (dt : DateTime) (year : ℕ) → civil_nanos dt ≡ n → pos year ≡ dt.date.year → (is_civil (of_datetime dt year) ≡ true) × IsWithinSecond n (of_datetime dt year)
unfolding nanos_of
found_in n dt year e y =
    let last : dt.date.day ≤ days_in_month (pos year) dt.date.month = subst (λ (z : ℤ). dt.date.day ≤ days_in_month z dt.date.month) (sym y) dt.date.day_in.1 in
    let a : nat_lt year 10000 ≡ true = lt-ltb _ _ (omega (arith, signed_arith, dt.date.year_in.1, y)) in
    let b : nat_lt 0 dt.date.month ≡ true = lt-ltb _ _ (omega (arith, dt.date.month_in.0)) in
    let c : nat_lt dt.date.month 13 ≡ true = lt-ltb _ _ (omega (arith, dt.date.month_in.1)) in
    let d : nat_lt 0 dt.date.day ≡ true = lt-ltb _ _ (omega (arith, dt.date.day_in.0)) in
    let f : nat_le dt.date.day (days_in_month (pos year) dt.date.month) ≡ true = le-leb _ _ last in
    let g : nat_lt dt.time.hour 24 ≡ true = lt-ltb _ _ dt.time.hour_in in
    let h : nat_lt dt.time.minute 60 ≡ true = lt-ltb _ _ dt.time.minute_in in
    let i : nat_lt dt.time.second 60 ≡ true = lt-ltb _ _ dt.time.second_in in
    let days : days_from_civil (pos year) dt.date.month dt.date.day ≡ epoch_day dt.date = ap (λ (z : ℤ). days_from_civil z dt.date.month dt.date.day) y in
    let parts = civil_nanos-parts dt in
    (all_true _ _ _ _ _ _ _ _ a b c d f g h i, (omega (arith, signed_arith, parts, e, days, dt.time.subsec_in), omega (arith, signed_arith, parts, e, days, dt.time.subsec_in)))

pub pos-nat_abs : (z : ℤ) → pos 0 ≤ℤ z → pos (nat_abs z) ≡ z
pos-nat_abs (pos n) h = refl
pos-nat_abs (negsuc n) h = absurd (omega (arith, signed_arith, h))
