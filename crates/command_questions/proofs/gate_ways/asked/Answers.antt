use Rattle.command_questions.proofs.GateWaySufficing.{asks}
use Rattle.command_questions.proofs.gate_ways.asked.Goals as goal

pub returns : goal.returns
returns g c =
    asks c.args.by c.args.governed c.args.now c.as_slice.result.now c.as_bytes.result.now _ _ c.gate_noting-came.result c.new-notes.result.refused.now c.sufficient-noted.result
    c.as_slice.ensures c.as_bytes.ensures c.new-notes.ensures c.gate_noting-came.ensures c.sufficient-noted.ensures
