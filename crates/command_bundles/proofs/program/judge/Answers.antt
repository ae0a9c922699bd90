use Rattle.std.proofs.Common.{refl}
use Rattle.command_bundles.specs.Run.{unlisted}
use Rattle.command_bundles.proofs.Saying.{listed_so}
use Rattle.command_bundles.proofs.program.judge.Goals as goal

pub returns-in-Ok : goal.returns-in-Ok
returns-in-Ok g c =
    listed_so c.args.asked.way c.args.asked.outputs c.args.asked.listed c.args.asked.now c.as_bytes.result.now c.in-Ok.bundles c.as_slice.result.now _ _ c.judge_listed-said.result
    c.as_bytes.ensures c.in-Ok.ensures.ok c.as_slice.ensures c.judge_listed-said.ensures

pub returns-in-Err : goal.returns-in-Err
returns-in-Err g c = unlisted c.in-Err.fault (rw c.as_bytes.ensures at c.in-Err.ensures.err) refl c.unlisted.ensures
