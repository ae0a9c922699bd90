use Rattle.std.proofs.Common.{arith}
use Rattle.command_generate.proofs.Counting.{line_more, no_more}
use Rattle.command_generate.proofs.summary.push_lines.Goals as goal

pub numbers-preserved : goal.numbers-preserved
numbers-preserved c =
    line_more c.args.outcomes.now _ _ _ c.numbers.number c.numbers-test.true c.in_ok-push_line.ensures c.numbers.invariant

pub returns : goal.returns
returns c = no_more c.args.outcomes.now _ _ c.numbers.number (omega (arith, c.numbers-test.false, c.numbers.auto)) c.numbers.invariant
