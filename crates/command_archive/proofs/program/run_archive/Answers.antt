use Rattle.command_archive.proofs.RunEnding.{end_means, end_completes}
use Rattle.command_archive.proofs.program.run_archive.Goals as goal

pub returns-clause-means : goal.returns-clause-means
returns-clause-means g c = end_means _ _ _ _ _ _ _ c.decide-said.ensures c.finish.ensures

pub returns-clause-archives : goal.returns-clause-archives
returns-clause-archives g c = end_completes _ _ _ _ _ _ _ c.decide-said.ensures c.finish.ensures
