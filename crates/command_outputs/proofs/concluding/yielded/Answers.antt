use Rattle.std.proofs.Common.{refl}
use Rattle.command_outputs.specs.Concluding.{want_lines}
use Rattle.command_outputs.proofs.Saying.{yields_so}
use Rattle.command_outputs.proofs.concluding.yielded.Goals as goal

pub returns-in-Ok : goal.returns-in-Ok
returns-in-Ok g c =
    yields_so c.args.asked.now.line c.args.asked.now.outputs.now c.args.asked.now.bundle.now c.args.judged.now c.args.said c.in-Ok.report _ _ c.give.result c.in-Ok.ensures c.give.ensures

pub returns-in-Err : goal.returns-in-Err
returns-in-Err g c = want_lines _ refl refl
