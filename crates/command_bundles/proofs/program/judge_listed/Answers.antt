use Rattle.command_bundles.proofs.Saying.{concludes_so}
use Rattle.command_bundles.proofs.program.judge_listed.Goals as goal

pub returns : goal.returns
returns g c =
    concludes_so c.args.asked.way c.args.asked.outputs c.args.asked.listed c.args.asked.now c.args.bundles.now _ _ c.verify_list-came.result _ c.conclude_came-said.result
    (rw (c.len.ensures, c.is_some.ensures))
    (rw (c.as_bytes.ensures, c.as_slice.ensures) at c.verify_list-came.ensures) c.conclude_came-said.ensures
