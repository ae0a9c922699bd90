use Rattle.command_ways.proofs.FolderSaying.{way_of}
use Rattle.command_ways.proofs.folder_judging.gate_by.Goals as goal

pub returns-in-Ok-clause-gates : goal.returns-in-Ok-clause-gates
returns-in-Ok-clause-gates g c = way_of _ _ _ _ c.in-Ok.trust c.in-Ok.ensures _ c.gate_under.ensures.gates
