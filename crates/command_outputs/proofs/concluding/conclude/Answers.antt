use Rattle.std.proofs.Common.{refl}
use Rattle.command_outputs.specs.Concluding.{want_saying, follows}
use Rattle.command_outputs.proofs.concluding.conclude.Goals as goal

pub returns-in-Ok : goal.returns-in-Ok
returns-in-Ok g c = follows c.in-Ok.said c.in-Ok.ensures c.followed.ensures

pub returns-in-Err : goal.returns-in-Err
returns-in-Err g c = want_saying _ refl refl
