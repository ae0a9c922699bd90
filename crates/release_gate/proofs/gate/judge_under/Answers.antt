use Rattle.std.proofs.Common.{Ok, Err, refl, ap}
use Rattle.release_gate.proofs.gate.judge_under.Goals as goal

pub returns-in-Ok-clause-walks : goal.returns-in-Ok-clause-walks
returns-in-Ok-clause-walks g c = (Ok c.in-Ok.lines, c.in-Ok.ensures.walks, refl)

pub returns-in-Err-clause-walks : goal.returns-in-Err-clause-walks
returns-in-Err-clause-walks g c = (Err c.in-Err.stop, c.in-Err.ensures.walks, ap Err c.fault_of_stop.ensures)
