use Rattle.std.proofs.Common.{rules, arith, ◌<◌, length, ◌∙◌}
use Rattle.command_files.proofs.Folds.{cut_shorter, folded_more, folded_refused, folded_uncut}
use Rattle.command_files.proofs.lines.take_text.Goals as goal

pub lines-smaller : goal.lines-smaller
lines-smaller g c = cut_shorter 10 c.lines.rest.now c.in-Some.line.now c.in-Some.next.now c.in-Some.ensures

pub lines-preserved : goal.lines-preserved
lines-preserved g c = record {
  text = search rules;
  folded = c.lines.invariant.folded ∙ folded_more g.S.ByLine.takes c.lines.state c.take_line.new.state c.lines.rest.now c.in-Some.line.now c.in-Some.next.now c.in-Some.ensures c.in-Ok.ensures.ok;
}

pub returns-in-Err-clause-err : goal.returns-in-Err-clause-err
returns-in-Err-clause-err g c =
    λ n. c.lines.invariant.folded ∙ folded_refused g.S.ByLine.takes c.lines.state c.lines.rest.now c.in-Some.line.now c.in-Some.next.now c.in-Err.e c.in-Some.ensures c.in-Err.ensures.err n

pub returns-else-is_empty-clause-err : goal.returns-else-is_empty-clause-err
returns-else-is_empty-clause-err g c =
    let some : 0 < length c.lines.rest.now = grind (arith, c.if-is_empty.false, c.is_empty.ensures) in
    λ n. c.lines.invariant.folded ∙ folded_uncut g.S.ByLine.takes c.lines.state c.lines.rest.now c.in_default.ensures some
