use Rattle.std.proofs.Common.{◌≡◌, ◌∙◌, ℤ, pos, to_z, of_z, w16, ap, arith}
use Rattle.std.specs.Int.{w128}
use Rattle.std.proofs.Math.IntN.{nat_abs}
use Rattle.std.proofs.lemmas.Int.{to_z-of_z}
use Rattle.jiff.proofs.SpanFacts.{signed_arith}
use Rattle.der_core.proofs.Moments.{found_in, none_before, pos-nat_abs}
use Rattle.der_core.proofs.moment.civil_of.Goals as goal

pub returns-in-Ok-clause-found : goal.returns-in-Ok-clause-found
returns-in-Ok-clause-found c =
    let read : to_z w16 (of_z w16 c.in-Ok.datetime.date.year) ≡ c.in-Ok.datetime.date.year = to_z-of_z w16 c.in-Ok.datetime.date.year (omega (arith, signed_arith, c.in-Ok.datetime.date.year_in.0, c.in-Ok.datetime.date.year_in.1)) in
    let above : pos (nat_abs c.in-Ok.datetime.date.year) ≡ c.in-Ok.datetime.date.year = pos-nat_abs c.in-Ok.datetime.date.year (omega (arith, signed_arith, c.if-datetime-ge0.true)) in
    let wide : to_z w128 (of_z w128 c.as_nanosecond.result) ≡ c.as_nanosecond.result = to_z-of_z w128 c.as_nanosecond.result (omega (arith, signed_arith, c.as_nanosecond.ensures, c.args.moment.in_range.0, c.args.moment.in_range.1)) in
    found_in c.args.moment.nanosecond c.in-Ok.datetime _ (c.in-Ok.ensures.value ∙ wide ∙ c.as_nanosecond.ensures) (ap (λ (z : ℤ). pos (nat_abs z)) read ∙ above)

pub returns-in_default-clause-none : goal.returns-in_default-clause-none
returns-in_default-clause-none c =
    let wide : to_z w128 (of_z w128 c.as_nanosecond.result) ≡ c.as_nanosecond.result = to_z-of_z w128 c.as_nanosecond.result (omega (arith, signed_arith, c.as_nanosecond.ensures, c.args.moment.in_range.0, c.args.moment.in_range.1)) in
    λ civil p h. none_before c.args.moment.nanosecond c.in-Ok.datetime civil (c.in-Ok.ensures.value ∙ wide ∙ c.as_nanosecond.ensures) (omega (arith, signed_arith, c.if-datetime-ge0.false)) p h
