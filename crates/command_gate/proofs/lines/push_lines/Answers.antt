use Rattle.std.proofs.Common.{◌∙◌, string_bytes}
use Rattle.command_gate.proofs.LineByLine.{lines_more}
use Rattle.command_gate.proofs.lines.push_lines.Goals as goal

pub lines-preserved : goal.lines-preserved
lines-preserved c =
    lines_more _ (string_bytes c.lines.text) _ _ c.args.lines.now c.lines.line-index c.line-item.result c.lines-test.true c.line-item.is c.lines.invariant
    (c.as_bytes.ensures.value ∙ c.as_str.ensures) c.in_ok-push_verdict.ensures
