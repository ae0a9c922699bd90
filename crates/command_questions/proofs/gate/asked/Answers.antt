use Rattle.command_questions.proofs.SufficingForFolder.{asks}
use Rattle.command_questions.proofs.gate.asked.Goals as goal

pub returns : goal.returns
returns g c =
    asks c.args.governed c.args.now c.as_slice.result.now c.as_bytes.result.now _ _ c.gate_noting-judged.result c.new-notes.result.refused.now c.sufficient_for_folder-noted.result
    c.as_slice.ensures c.as_bytes.ensures c.new-notes.ensures c.gate_noting-judged.ensures c.sufficient_for_folder-noted.ensures
