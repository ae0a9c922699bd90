use Rattle.std.proofs.Common.{◌≡◌, ◌∙◌, ◌<◌, ◌+◌, length, sym, ap, arith}
use Rattle.std.proofs.lemmas.Bool.Decides.{nat_tests}
use Rattle.std.proofs.lemmas.List.{length_push}
use Rattle.std.proofs.lemmas.Result.{err_from_is_err_and}
use Rattle.der_core.proofs.OidReading.{later-one, later-refused, arc-refused, later-ends}
use Rattle.der_core.proofs.arcs.append_later.Goals as goal

pub returns-in_err-number-clause-err : goal.returns-in_err-number-clause-err
returns-in_err-number-clause-err c =
    let some : 0 < length c.groups.rest.now = grind (arith, nat_tests) in
    let p = err_from_is_err_and c.from_residual.result c.from_residual.ensures.1 in
    rw (p.1, p.2) (later-refused c.args.arcs.now.items c.groups.arcs.items c.groups.rest.now c.args.bytes.now c.in_err-number.field-0.0 some c.in_err-number.ensures.err c.groups.invariant.0)

pub returns-in_err-one-clause-err : goal.returns-in_err-one-clause-err
returns-in_err-one-clause-err c =
    let some : 0 < length c.groups.rest.now = grind (arith, nat_tests) in
    let p = err_from_is_err_and c.from_residual-in_err-one.result c.from_residual-in_err-one.ensures.1 in
    rw (p.1, p.2) (arc-refused c.args.arcs.now.items c.groups.arcs.items c.groups.rest.now c.in_ok-number.after.now c.args.bytes.now c.in_ok-number.number c.in_err-one.field-0.0 some c.in_ok-number.ensures.ok (sym c.in_err-one.ensures) c.groups.invariant.0)

pub groups-preserved : goal.groups-preserved
groups-preserved c =
    let some : 0 < length c.groups.rest.now = grind (arith, nat_tests) in
    let shorter : length c.in_ok-number.after.now < length c.groups.rest.now = c.in_ok-number.ensures.shorter in
    let pushed : length c.push.new.self.items ≡ length c.groups.arcs.items + 1 = ap length c.push.ensures.items ∙ length_push c.groups.arcs.items c.in_ok-one.field-0 in
    (rw c.push.ensures.items (later-one c.args.arcs.now.items c.groups.arcs.items c.groups.rest.now c.in_ok-number.after.now c.args.bytes.now c.in_ok-number.number c.in_ok-one.field-0 some c.in_ok-number.ensures.ok (sym c.in_ok-one.ensures) c.groups.invariant.0), omega (arith, c.groups.invariant.1))

pub returns-clause-ok : goal.returns-clause-ok
returns-clause-ok c =
    let none : length c.groups.rest.now ≡ 0 = grind (arith, nat_tests) in
    later-ends c.args.arcs.now.items c.groups.arcs.items c.groups.rest.now c.args.bytes.now none c.groups.invariant.0
