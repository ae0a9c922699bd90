use Rattle.command_ways.proofs.FolderSaying.{judged_said}
use Rattle.command_ways.proofs.folder_program.judge.Goals as goal

pub returns : goal.returns
returns g c =
    judged_said _ c.args.by c.args.governed c.args.now _ _ _ _ c.gate_way-came.result c.folder_said-said.result c.as_slice.ensures c.as_bytes.ensures c.gate_way-came.ensures.gates
    c.gate_way-came.ensures.rests c.folder_said-said.ensures
