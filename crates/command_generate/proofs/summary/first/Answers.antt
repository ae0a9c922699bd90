use Rattle.std.proofs.Common.{sym}
use Rattle.command_generate.proofs.Counting.{none_at, found_at}
use Rattle.command_generate.proofs.summary.first.Goals as goal

pub returns-in-Some : goal.returns-in-Some
returns-in-Some c =
    found_at c.args.number c.outcomes.outcome-index c.args.outcomes.now c.outcome-item.result c.in-Some.e.now c.outcomes-test.true
    c.outcome-item.is c.outcomes.invariant c.in-Some.ensures

pub outcomes-preserved : goal.outcomes-preserved
outcomes-preserved c =
    none_at c.args.number c.outcomes.outcome-index c.args.outcomes.now c.outcome-item.result c.outcomes-test.true
    c.outcome-item.is c.outcomes.invariant (sym c.in_default.ensures)
