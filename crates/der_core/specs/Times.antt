-- UTCTime and GeneralizedTime (X.690, 11.7 and 11.8): digits and Z, with seconds and no fraction.
use Rattle.std.specs.Prelude.{ℕ, ◌+◌, ◌-◌, ◌*◌, ◌/◌, ◌%◌, ◌++◌, ◌∷◌, [], Bool, ◌&&◌, ◌==◌, nat_lt, nat_le, List, length}
use Rattle.std.specs.Prelude.{slice_index, Ok, Err, is_ok, if◌then◌else◌, refl, ℤ, pos, neg_ℤ, ◌+ℤ◌, ◌*ℤ◌, ◌≤ℤ◌, ◌<ℤ◌}
use Rattle.std.specs.Int.{int_min, int_max}
use Rattle.foundation.specs.Steps.{◌>>=◌}
use Rattle.jiff_core.specs.Calendar.{days_in_month, days_from_civil}
use Rattle.der_grammar.specs.declared.error.DerError.TheVariants.{Value}
use Rattle.der_grammar.specs.Outcome.{Outcome}
use Rattle.der_grammar.specs.Types.{AsnType, primitive_type}
use Rattle.der_grammar.specs.Tags.{generalized_time_tag, utc_time_tag}
use Rattle.der_core.specs.declared.civil.Civil.{Civil}
use Rattle.der_core.specs.Oid.{is_digit}

-- a real date of the years 0 to 9999 and a time of day below 24:00:00, with no leap second
abbrev pub is_civil : Civil → Bool
is_civil c =
    nat_lt c.year 10000 && nat_lt 0 c.month && nat_lt c.month 13 && nat_lt 0 c.day && nat_le c.day (days_in_month (pos c.year) c.month)
    && nat_lt c.hour 24 && nat_lt c.minute 60 && nat_lt c.second 60

-- the number of two digits
abbrev pub pair : ℕ → ℕ → Outcome ℕ
pair a b = if is_digit a && is_digit b then Ok (10 * (a - 48) + (b - 48)) else Err Value

abbrev pub pair_at : List ℕ → ℕ → Outcome ℕ
pair_at bytes i = pair (slice_index bytes i) (slice_index bytes (i + 1))

abbrev pub real : Civil → Outcome Civil
real c = if is_civil c then Ok c else Err Value

-- month, day, hour, minute and second from a place on, and Z behind them
unfoldable pub civil_at : ℕ → List ℕ → ℕ → Outcome Civil
civil_at year bytes i =
    if slice_index bytes (i + 10) == 90 then
    (pair_at bytes i >>= λ month. pair_at bytes (i + 2) >>= λ day. pair_at bytes (i + 4)
    >>= λ hour. pair_at bytes (i + 6) >>= λ minute. pair_at bytes (i + 8) >>= λ second.
    real (record { year = year; month = month; day = day; hour = hour; minute = minute; second = second }))
    else Err Value

-- YYYYMMDDHHMMSSZ
unfoldable pub generalized_of : List ℕ → Outcome Civil
generalized_of bytes =
    if length bytes == 15 then (pair_at bytes 0 >>= λ century. pair_at bytes 2
    >>= λ year. civil_at (100 * century + year) bytes 4) else Err Value

-- years 50 to 99 are those of 1900, and 00 to 49 those of 2000
abbrev pub full_year : ℕ → ℕ
full_year y = if nat_lt y 50 then 2000 + y else 1900 + y

-- YYMMDDHHMMSSZ
unfoldable pub utc_of : List ℕ → Outcome Civil
utc_of bytes = if length bytes == 13 then (pair_at bytes 0 >>= λ year. civil_at (full_year year) bytes 2) else Err Value

-- whether contents name a civil time
abbrev pub reads : (List ℕ → Outcome Civil) → List ℕ → Bool
reads civil contents = is_ok (civil contents)

abbrev pub generalized_time_type : AsnType (List ℕ)
generalized_time_type = primitive_type generalized_time_tag (reads generalized_of) refl

abbrev pub utc_time_type : AsnType (List ℕ)
utc_time_type = primitive_type utc_time_tag (reads utc_of) refl

-- ---- writing

abbrev pub digits : ℕ → List ℕ
digits n = (48 + n / 10) ∷ (48 + n % 10) ∷ []

abbrev pub rest_digits : Civil → List ℕ
rest_digits c = digits c.month ++ digits c.day ++ digits c.hour ++ digits c.minute ++ digits c.second ++ 90 ∷ []

-- ---- moments

-- nanoseconds from the start of 1970 to the start of the second
unfoldable pub nanos_of : Civil → ℤ
nanos_of c =
    (days_from_civil (pos c.year) c.month c.day *ℤ pos 86_400 +ℤ pos (c.hour * 3600 + c.minute * 60 + c.second)) *ℤ pos 1_000_000_000

-- within the range of an instant
abbrev pub nearest : ℤ → ℤ
nearest n = int_max (neg_ℤ (pos 377_705_023_201_000_000_000)) (int_min (pos 253_402_207_200_999_999_999) n)

-- the first instant that there is
abbrev pub least_instant : ℤ
least_instant = neg_ℤ (pos 377_705_023_201_000_000_000)

-- the instant of a civil time, or the nearest one; the least of what is no real date or time of day
abbrev pub instant_of_civil : Civil → ℤ
instant_of_civil c = if is_civil c then nearest (nanos_of c) else least_instant

-- the instant lies in the second
abbrev pub IsWithinSecond : ℤ → Civil → Type 0
IsWithinSecond n c = (nanos_of c ≤ℤ n) × (n <ℤ (nanos_of c +ℤ pos 1_000_000_000))
