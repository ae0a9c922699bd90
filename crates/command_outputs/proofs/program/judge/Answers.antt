use Rattle.command_outputs.proofs.Saying.{judges_so}
use Rattle.command_outputs.proofs.program.judge.Goals as goal

pub returns : goal.returns
returns g c =
    judges_so c.args.asked.way c.args.asked.outputs c.args.asked.gathered c.args.asked.now _ _ c.verify_way-came.result _ _ c.conclude-said.result
    (rw (c.len.ensures, c.is_some.ensures)) c.as_bytes-3.ensures
    (rw (c.as_bytes.ensures, c.as_bytes-2.ensures, c.as_slice.ensures) at c.verify_way-came.ensures) c.conclude-said.ensures
