use Rattle.command_gate.proofs.Saying.{judged_said}
use Rattle.command_gate.proofs.program.judge.Goals as goal

pub returns : goal.returns
returns g c =
    judged_said _ c.args.governed c.args.now _ _ _ _ c.gate_folder-judged.result c.answered-said.result c.as_slice.ensures c.as_bytes.ensures c.gate_folder-judged.ensures.promises c.gate_folder-judged.ensures.rests c.answered-said.ensures
