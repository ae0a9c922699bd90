-- An instant is the one at its nanosecond.
use Rattle.std.proofs.Common.{◌≡◌, ℤ, pos, arith, subst, sym, ap, ◌∙◌}
use Rattle.std.specs.Int.{int_min}
use Rattle.std.specs.Prelude.{neg_ℤ}
use Rattle.std.proofs.lemmas.Int.{int_max_is, int_min_is}
use denote.Struct.Props.{props}
use Rattle.jiff.proofs.SpanFacts.{signed_arith}
use Rattle.jiff_core.specs.declared.timestamp.Timestamp.{Timestamp}
use Rattle.jiff_core.specs.Timestamp.{IsTimestampNanos}
use Rattle.sigstore_types_parts.specs.Instant.{nearest, nearest_within, at_nanosecond}

nearest_of : (n : ℤ) → IsTimestampNanos n → nearest n ≡ n
nearest_of n h =
    omega (arith, signed_arith, int_max_is (neg_ℤ (pos 377_705_023_201_000_000_000)) (int_min (pos 253_402_207_200_999_999_999) n), int_min_is (pos 253_402_207_200_999_999_999) n)

one_way : (n : ℤ) → IsProp (IsTimestampNanos n)
one_way n = hlevel props

unfoldable made : (n : ℤ) → IsTimestampNanos n → Timestamp
made n h = record { nanosecond = n; in_range = h }

pub at_nanosecond-nanosecond : (t : Timestamp) → at_nanosecond t.nanosecond ≡ t
unfolding made at_nanosecond
at_nanosecond-nanosecond t =
    subst (λ m. (q : IsTimestampNanos m) → made (nearest t.nanosecond) (nearest_within t.nanosecond) ≡ made m q) (nearest_of t.nanosecond t.in_range)
    (λ q. ap (made (nearest t.nanosecond)) (one_way (nearest t.nanosecond) (nearest_within t.nanosecond) q)) t.in_range

-- an instant whose number is the one nearest to a number of nanoseconds
pub at_once : (m : Timestamp) (n : ℤ) → m.nanosecond ≡ nearest n → m ≡ at_nanosecond n
unfolding at_nanosecond
at_once m n h = sym (at_nanosecond-nanosecond m) ∙ (ap at_nanosecond h ∙ at_nanosecond-nanosecond (at_nanosecond n))
