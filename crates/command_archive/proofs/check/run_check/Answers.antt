use Rattle.command_archive.proofs.CheckMeaning.{check_means, check_shelves}
use Rattle.command_archive.proofs.CheckCompleting.{check_completes}
use Rattle.command_archive.proofs.check.run_check.Goals as goal

pub returns-clause-means : goal.returns-clause-means
returns-clause-means g c = check_means _ _ _ _ _ _ _ c.decide-said.ensures c.finish.ensures

pub returns-clause-shelves : goal.returns-clause-shelves
returns-clause-shelves g c = check_shelves _ _ _ _ c.decide-said.ensures

pub returns-clause-complete : goal.returns-clause-complete
returns-clause-complete g c = check_completes _ _ _ _ _ _ _ c.decide-said.ensures c.finish.ensures
