-- 64-bit numbers in JSON, which are JSON integers or decimal texts (protobuf, "ProtoJSON Format", int64).
use Rattle.std.specs.Prelude.{ℕ, zero, suc, ◌^◌, nat_lt, nat_le, List, length, ℤ, pos, negsuc, Bool, ◌&&◌, if◌then◌else◌}
use Rattle.std.specs.Prelude.{Option, Some, None, option_and_then, Result, Ok, Err, ok_or}
use Rattle.std.specs.List.{list_all}
use Rattle.std.specs.Char.{is_ascii_digit}
use Rattle.std.specs.Str.Parse.{digits_value, signed_digits_value, without_leading_plus, without_leading_sign, starts_with_minus}
use Rattle.serde_json.specs.Data.{Data}
use Rattle.serde_json.specs.Find.{as_number, as_u64, as_i64, as_str}
use Rattle.foundation.specs.Steps.{◌>>=◌}
use Rattle.sigstore_types_parts.specs.declared.error.TypesError.{TypesError}
use Rattle.sigstore_types_parts.specs.declared.error.TypesError.TheVariants as e
use Rattle.sigstore_types_parts.specs.declared.member.TypesMember.TheVariants as m
use Rattle.sigstore_entries.specs.declared.log_index.LogIndex.{LogIndex}
use Rattle.sigstore_entries.specs.declared.time.Time.{Time}

-- a place below 2^63
abbrev pub log_index_of : ℕ → Result LogIndex TypesError
log_index_of n = if nat_lt n (2 ^ 63) then Ok (record { value = n }) else Err (e.Field m.LogIndex)

-- one decimal digit or more
abbrev pub are_digits : List ℕ → Bool
are_digits text = nat_lt 0 (length text) && list_all is_ascii_digit text

-- digits behind a plus or no sign, of a number below 2^64
unfoldable pub unsigned_of : List ℕ → Option ℕ
unsigned_of text =
    if are_digits (without_leading_plus text) && nat_lt (digits_value 10 (without_leading_plus text)) (2 ^ 64)
    then Some (digits_value 10 (without_leading_plus text))
    else None

-- a sign's number is at most 2^63 behind a minus and below it else
abbrev pub is_signed : List ℕ → Bool
is_signed text =
    let number = digits_value 10 (without_leading_sign text) in
    if starts_with_minus text then nat_le number (2 ^ 63) else nat_lt number (2 ^ 63)

-- digits behind a minus, a plus or no sign, of a number from -2^63 up to 2^63 - 1
unfoldable pub signed_of : List ℕ → Option ℤ
signed_of text = if are_digits (without_leading_sign text) && is_signed text then Some (signed_digits_value 10 text) else None

-- an integer, or a text that writes one
abbrev pub unsigned_in : Option (List ℕ) → Data → Option ℕ
unsigned_in (Some text) d = unsigned_of text
unsigned_in None d = option_and_then as_u64 (as_number d)

abbrev pub signed_in : Option (List ℕ) → Data → Option ℤ
signed_in (Some text) d = signed_of text
signed_in None d = option_and_then as_i64 (as_number d)

-- a place in a log
unfoldable pub place_of : Data → Result LogIndex TypesError
place_of d = do
  number ← ok_or (unsigned_in (as_str d) d) e.Json
  if nat_lt number (2 ^ 63) then Ok (record { value = number }) else Err e.Json

-- seconds since 1970
unfoldable pub time_of : Data → Result Time TypesError
time_of d = do
  seconds ← ok_or (signed_in (as_str d) d) e.Json
  Ok (record { seconds = seconds })

-- 0 is no time
abbrev pub unless_zero : ℤ → Option ℤ
unless_zero (pos zero) = None
unless_zero (pos (suc n)) = Some (pos (suc n))
unless_zero (negsuc n) = Some (negsuc n)

abbrev pub known_time_of : Option Time → Option ℤ
known_time_of None = None
known_time_of (Some time) = unless_zero time.seconds

-- an absent place is 0
abbrev pub or_first : Option LogIndex → LogIndex
or_first None = record { value = 0 }
or_first (Some place) = place
