-- What a policy asks of a signature beside who made it.
use Rattle.std.specs.Prelude.{ℕ, Bool, true, ◌&&◌, ◌||◌, not, Option, Some, None, is_some}
use Rattle.jiff_core.specs.declared.timestamp.Timestamp.{Timestamp}
use Rattle.sigstore_types_parts.specs.TimeRange.{is_by}
use Rattle.sigstore_keys.specs.declared.distinct.Threshold.{Threshold}
use Rattle.sigstore_keys.specs.Distinct.{is_enough}
use Rattle.sigstore_policy.specs.declared.conditions.SignatureConditions.{SignatureConditions}

-- nothing more
abbrev pub no_conditions : SignatureConditions
no_conditions = record { predicate = None; times = None; tokens = None; signed_before = None; signed_after = None }

-- as many as are asked for, where a number is
abbrev pub is_enough_if : Option Threshold → ℕ → Bool
is_enough_if None found = true
is_enough_if (Some asked) found = is_enough asked found

-- it is asked when it was signed
abbrev pub asks_window : SignatureConditions → Bool
asks_window asked = is_some asked.signed_before || is_some asked.signed_after

abbrev pub is_before : Option Timestamp → Timestamp → Bool
is_before None time = true
is_before (Some moment) time = not (is_by moment time)

abbrev pub is_from : Option Timestamp → Timestamp → Bool
is_from None time = true
is_from (Some moment) time = is_by moment time

-- a time before the one moment, and not before the other
abbrev pub is_within : SignatureConditions → Timestamp → Bool
is_within asked time = is_before asked.signed_before time && is_from asked.signed_after time
