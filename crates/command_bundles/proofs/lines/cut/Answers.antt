use Rattle.std.proofs.Common.{sym, ◌∙◌}
use Rattle.command_bundles.proofs.Cutting.{cut_at, uncut}
use Rattle.command_bundles.proofs.lines.cut.Goals as goal

pub returns-in-Some : goal.returns-in-Some
returns-in-Some c =
    cut_at c.args.octets.now c.split_at.result.0.now c.split_at.result.1.now c.split_at-in-Some.result.1.now c.in-Some.end
    (sym c.line_end.ensures ∙ c.in-Some.is) c.split_at.ensures.front c.split_at.ensures.back c.split_at-in-Some.ensures.back

pub returns-in-None : goal.returns-in-None
returns-in-None c = uncut c.args.octets.now (sym c.line_end.ensures ∙ c.in-None.is)
