use Rattle.std.proofs.Common.{refl, [], arith, sym, subst}
use Rattle.release_gate.specs.Walk.{Walked, begun}
use Rattle.release_gate.proofs.Stepping.{walked_more, walk_stopped, walked_all}
use Rattle.release_gate.proofs.Walking.{since_both, line_more, no_lines}
use Rattle.release_gate.proofs.walk.judge_each.Goals as goal

pub names-init : goal.names-init
names-init g c =
    record {
      since = record { same = refl; later = omega arith };
      lines = no_lines (g.D.Folder.seen c.args.folder.now).told (g.J.Judge.judging c.args.judge.now) c.args.names.now c.new-lines.result c.new-lines.ensures;
      walked = subst (λ ls. Walked (g.J.Judge.rests c.args.judge.now _ g.D.Folder.gave c.args.names.now) c.args.folder.now [] ls c.args.folder.now) (sym c.new-lines.ensures) begun;
    }

pub names-preserved : goal.names-preserved
names-preserved g c =
    let seen = g.D.Folder.seen in
    record {
      since = since_both _ _ _ c.names.invariant.since c.add_line.ensures.since;
      lines = line_more (seen c.args.folder.now) (seen c.names.folder) (g.J.Judge.judging c.args.judge.now) c.args.names.now c.names.name-index c.name-item.result c.names.lines c.add_line.new.lines
          c.names-test.true c.names.invariant.since c.names.invariant.lines (rw c.name-item.is at c.in-Ok.ensures.added);
      walked = walked_more _ _ _ _ _ c.args.names.now c.names.name-index c.name-item.result c.names.lines _ c.names-test.true c.name-item.is c.names.invariant.walked c.in-Ok.ensures.steps;
    }

pub returns-in-Err-clause-walks : goal.returns-in-Err-clause-walks
returns-in-Err-clause-walks g c =
    walk_stopped _ _ _ _ _ c.args.names.now c.names.name-index c.name-item.result c.names.lines _ c.names-test.true c.name-item.is c.names.invariant.walked c.in-Err.e c.in-Err.ensures.steps

pub returns-clause-walks : goal.returns-clause-walks
returns-clause-walks g c = walked_all _ _ _ _ c.args.names.now c.names.name-index c.names.lines c.names-test.false c.names.invariant.walked
