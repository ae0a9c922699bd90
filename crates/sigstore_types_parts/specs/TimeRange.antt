-- When a moment lies in a span of time (Sigstore's common definitions, TimeRange).
use Rattle.std.specs.Prelude.{Bool, true, ◌&&◌, not, Option, Some, None, int_lt}
use Rattle.jiff_core.specs.declared.timestamp.Timestamp.{Timestamp}
use Rattle.sigstore_types_parts.specs.declared.time_range.TimeRange.{TimeRange}

-- the first moment isn't after the second
abbrev pub is_by : Timestamp → Timestamp → Bool
is_by first second = not (int_lt second.nanosecond first.nanosecond)

abbrev pub has_started : TimeRange → Timestamp → Bool
has_started range moment = is_by range.start moment

abbrev pub ends_by : Option Timestamp → Timestamp → Bool
ends_by None moment = true
ends_by (Some end) moment = is_by moment end

-- both ends belong to it, and one without an end goes on
abbrev pub contains : TimeRange → Timestamp → Bool
contains range moment = has_started range moment && ends_by range.end moment
