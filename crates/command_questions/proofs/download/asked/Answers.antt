use Rattle.command_questions.proofs.SufficingForTargets.{asks}
use Rattle.command_questions.proofs.download.asked.Goals as goal

pub returns : goal.returns
returns g c =
    asks c.args.anchored c.args.downloads c.as_slice.result.now c.args.now c.as_bytes.result.now c.as_slice.ensures c.as_bytes.ensures _ _ c.chains_noting-judged.result c.new-notes.result.refused.now
    c.sufficient_for_targets-noted.result c.new-notes.ensures c.chains_noting-judged.ensures c.sufficient_for_targets-noted.ensures
