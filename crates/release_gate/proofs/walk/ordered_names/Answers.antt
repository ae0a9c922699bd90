use Rattle.std.proofs.Common.{refl}
use Rattle.release_gate.specs.Walk.{unlisted}
use Rattle.release_gate.proofs.Stepping.{disorders}
use Rattle.release_gate.proofs.walk.ordered_names.Goals as goal

pub returns-in-Ok-clause-nameless : goal.returns-in-Ok-clause-nameless
returns-in-Ok-clause-nameless g c = disorders _ _ _ _ _ _ c.put_in_order.result c.in-Ok.ensures.gave c.put_in_order.ensures.err

pub returns-in-Err-Failed-clause-nameless : goal.returns-in-Err-Failed-clause-nameless
returns-in-Err-Failed-clause-nameless g c = unlisted _ c.in-Err-Failed.ensures.gave refl
