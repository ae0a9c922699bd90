use Rattle.command_ways.proofs.Saying.{judges_so}
use Rattle.command_ways.proofs.program.judge.Goals as goal

pub returns : goal.returns
returns g c =
    judges_so c.args.way c.args.gathered c.args.now _ _ c.verify_way-came.result _ c.answered-said.result
    (rw (c.len.ensures, c.is_some.ensures))
    (rw (c.as_bytes.ensures, c.as_bytes-2.ensures, c.as_slice.ensures) at c.verify_way-came.ensures) c.answered-said.ensures
