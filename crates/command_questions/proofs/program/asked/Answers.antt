use Rattle.command_questions.proofs.Sufficing.{asks}
use Rattle.command_questions.proofs.program.asked.Goals as goal

pub returns : goal.returns
returns g c =
    asks c.args.gathered c.args.now c.as_slice.result.now c.as_bytes.result.now c.as_bytes-2.result.now c.as_slice.ensures c.as_bytes.ensures c.as_bytes-2.ensures _ _ c.verify_noting-judged.result
    c.new-notes.result.refused.now c.sufficient-noted.result c.new-notes.ensures c.verify_noting-judged.ensures c.sufficient-noted.ensures
