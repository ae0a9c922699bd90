use Rattle.std.proofs.Common.{◌≡◌, ◌∙◌, ◌<◌, ◌≤◌, ◌+◌, ◌*◌, ℤ, pos, negsuc, ◌≤ℤ◌, ◌+ℤ◌, ◌*ℤ◌, to_z, w16, sym, ap, subst, arith, rules}
use Rattle.std.proofs.lemmas.Int.{to_z_pos}
use Rattle.jiff.proofs.SpanFacts.{signed_arith}
use Rattle.jiff_core.proofs.DateTimeLemmas.{civil_nanos-parts}
use Rattle.jiff_core.specs.Calendar.{days_in_month, days_from_civil}
use Rattle.der_core.specs.Times.{nanos_of}
use Rattle.der_core.proofs.Moments.{sum_is, last_day}
use Rattle.der_core.proofs.moment.datetime_of.Goals as goal

pub invariant_of-result : goal.invariant_of-result
invariant_of-result c =
    let low : c.args.civil.now.year < 10000 = search rules in
    let is : to_z w16 c.args.civil.now.year ≡ pos c.args.civil.now.year = to_z_pos w16 c.args.civil.now.year (omega arith) in
    let last : c.args.civil.now.day ≤ days_in_month (pos c.args.civil.now.year) c.args.civil.now.month = last_day c.args.civil.now c.requires in
    record {
      year_in = (subst (λ (z : ℤ). negsuc 9998 ≤ℤ z) (sym is) (omega (arith, signed_arith)), subst (λ (z : ℤ). z ≤ℤ pos 9999) (sym is) (omega (arith, signed_arith)));
      month_in = (search rules, search rules);
      day_in = (search rules, subst (λ (z : ℤ). c.args.civil.now.day ≤ days_in_month z c.args.civil.now.month) (sym is) last);
    }

pub returns : goal.returns
unfolding nanos_of
returns c =
    let low : c.args.civil.now.year < 10000 = search rules in
    let is : to_z w16 c.args.civil.now.year ≡ pos c.args.civil.now.year = to_z_pos w16 c.args.civil.now.year (omega arith) in
    civil_nanos-parts _
    ∙ ap (λ (z : ℤ). days_from_civil z c.args.civil.now.month c.args.civil.now.day *ℤ pos 86400000000000 +ℤ pos ((c.args.civil.now.hour * 3600 + c.args.civil.now.minute * 60 + c.args.civil.now.second) * 1000000000 + 0)) is
    ∙ sum_is (days_from_civil (pos c.args.civil.now.year) c.args.civil.now.month c.args.civil.now.day) (c.args.civil.now.hour * 3600 + c.args.civil.now.minute * 60 + c.args.civil.now.second)
