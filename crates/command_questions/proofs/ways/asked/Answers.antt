use Rattle.command_questions.proofs.WaySufficing.{way_asks}
use Rattle.command_questions.proofs.ways.asked.Goals as goal

pub returns : goal.returns
returns g c =
    way_asks c.args.way c.args.gathered c.args.now c.as_slice.result.now c.as_bytes.result.now c.as_bytes-2.result.now c.as_slice.ensures c.as_bytes.ensures c.as_bytes-2.ensures _ _
    c.verify_noting-came.result c.new-notes.result.refused.now c.sufficient_for_way-noted.result c.new-notes.ensures c.verify_noting-came.ensures c.sufficient_for_way-noted.ensures
