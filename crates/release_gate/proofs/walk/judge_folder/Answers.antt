use Rattle.std.proofs.Common.{refl}
use Rattle.release_gate.specs.Walk.{nameless, ordered}
use Rattle.release_gate.proofs.Walking.{folder_judged}
use Rattle.release_gate.proofs.walk.judge_folder.Goals as goal

pub returns-clause-judges : goal.returns-clause-judges
returns-clause-judges g c =
    folder_judged _ _ _ _ c.in-Ok.names.items c.judge_each-lines.result (g.met.D.Folder.lists c.args.folder.now) c.ordered_names.ensures.since c.judge_each-lines.ensures.since
    c.in-Ok.ensures.given (rw c.as_slice.ensures.value at c.judge_each-lines.ensures.given) c.judge_each-lines.ensures.refused

pub returns-in-Err-clause-walks : goal.returns-in-Err-clause-walks
returns-in-Err-clause-walks g c = nameless c.in-Err.e c.in-Err.ensures.nameless refl

pub returns-clause-walks : goal.returns-clause-walks
returns-clause-walks g c = ordered c.in-Ok.names.items _ c.in-Ok.ensures.names (rw c.as_slice.ensures.value at c.judge_each-lines.ensures.walks)
