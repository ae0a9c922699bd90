use Rattle.std.proofs.Common.{refl, string_bytes}
use Rattle.command_gate.proofs.LineByLine.{later_more}
use Rattle.command_gate.proofs.lines.push_later.Goals as goal

pub numbers-preserved : goal.numbers-preserved
numbers-preserved c =
    later_more c.args.part _ (string_bytes c.numbers.text) _ _ c.args.numbers.now c.numbers.number-index _ c.numbers-test.true refl c.numbers.invariant
    c.in_ok-push_str.ensures.bytes c.in_ok-push_part.ensures
