use Rattle.std.proofs.Common.{refl, sym, ap, ◌∙◌}
use Rattle.release_gate.specs.Names.{is_bundle}
use Rattle.release_gate.specs.Walk.{line, halted}
use Rattle.release_gate.proofs.Walking.{line_added}
use Rattle.release_gate.proofs.walk.add_line.Goals as goal

pub returns-in_ok-push_line-in-Ok-clause-added : goal.returns-in_ok-push_line-in-Ok-clause-added
returns-in_ok-push_line-in-Ok-clause-added g c =
    line_added (g.D.Folder.seen c.args.folder.now).told (g.J.Judge.judging c.args.judge.now) c.args.names.now c.args.name.now c.in-Ok.verdict c.args.lines.now c.push_line.new.lines
    (g.met.D.Folder.lists c.args.folder.now) c.requires.listed c.requires.among (ap is_bundle (sym c.as_str.ensures) ∙ sym c.is_bundle.ensures ∙ c.if-is_bundle.false)
    (rw c.as_str-2.ensures at c.in-Ok.ensures.judges.given) c.in_ok-push_line-in-Ok.ensures.ok

pub returns-in_ok-push_line-in-Ok-clause-steps : goal.returns-in_ok-push_line-in-Ok-clause-steps
returns-in_ok-push_line-in-Ok-clause-steps g c =
    line c.in-Ok.verdict (ap is_bundle (sym c.as_str.ensures) ∙ sym c.is_bundle.ensures ∙ c.if-is_bundle.false) (rw c.as_str-2.ensures at c.in-Ok.ensures.rests)
    c.in_ok-push_line-in-Ok.ensures.ok refl

pub returns-in-Err-clause-steps : goal.returns-in-Err-clause-steps
returns-in-Err-clause-steps g c =
    halted c.in-Err.e (ap is_bundle (sym c.as_str.ensures) ∙ sym c.is_bundle.ensures ∙ c.if-is_bundle.false) (rw c.as_str-2.ensures at c.in-Err.ensures.rests) refl
