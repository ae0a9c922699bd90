use Rattle.command_download.proofs.Ending.{said_shelves}
use Rattle.command_download.proofs.RunEnding.{end_means, end_accepted, end_refused, end_completes}
use Rattle.command_download.proofs.program.run_download.Goals as goal

pub returns-clause-accepted : goal.returns-clause-accepted
returns-clause-accepted g c = end_accepted _ _ _ _ _ _ _ c.decide-said.ensures c.finish.ensures

pub returns-clause-refused : goal.returns-clause-refused
returns-clause-refused g c = end_refused _ _ _ _ _ _ _ c.decide-said.ensures c.finish.ensures

pub returns-clause-means : goal.returns-clause-means
returns-clause-means g c = end_means _ _ _ _ _ _ _ c.decide-said.ensures c.finish.ensures

pub returns-clause-shelves : goal.returns-clause-shelves
returns-clause-shelves g c = said_shelves _ _ _ _ c.decide-said.ensures

pub returns-clause-complete : goal.returns-clause-complete
returns-clause-complete g c = end_completes _ _ _ _ _ _ _ c.decide-said.ensures c.finish.ensures
