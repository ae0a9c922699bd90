use Rattle.std.proofs.Common.{◌≡◌, ◌<◌, length, arith}
use Rattle.std.proofs.lemmas.Bool.Decides.{nat_tests}
use Rattle.std.proofs.lemmas.Result.{err_from_is_err_and}
use Rattle.x509_views.proofs.SctLists.{reads_one, refused, ends}
use Rattle.x509_views.proofs.scts.items.Goals as goal

pub returns-in_err-sct-clause-err : goal.returns-in_err-sct-clause-err
returns-in_err-sct-clause-err c =
    let some : 0 < length c.items.rest.now = grind (arith, nat_tests) in
    let p = err_from_is_err_and c.from_residual.result c.from_residual.ensures.1 in
    rw (p.1, p.2) (refused c.in_err-sct.field-0.0 c.items.scts.items c.items.rest.now c.args.list.now some c.in_err-sct.ensures.err c.items.invariant)

pub items-preserved : goal.items-preserved
items-preserved c =
    let some : 0 < length c.items.rest.now = grind (arith, nat_tests) in
    rw c.in_ok-push.ensures.items (reads_one c.items.scts.items c.items.rest.now c.in_ok-sct.after.now c.args.list.now c.in_ok-sct.sct some c.in_ok-sct.ensures.ok c.items.invariant)

pub returns-clause-ok : goal.returns-clause-ok
returns-clause-ok c =
    let none : length c.items.rest.now ≡ 0 = grind (arith, nat_tests) in
    ends c.items.scts.items c.items.rest.now c.args.list.now none c.items.invariant
