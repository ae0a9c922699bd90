use Rattle.command_audit.proofs.RunEnding.{end_means, end_completes}
use Rattle.command_audit.proofs.program.run_audit.Goals as goal

pub returns-clause-means : goal.returns-clause-means
returns-clause-means g c = end_means _ _ _ _ _ _ _ c.decide-said.ensures c.finish.ensures

pub returns-clause-complete : goal.returns-clause-complete
returns-clause-complete g c = end_completes _ _ _ _ _ _ _ c.decide-said.ensures c.finish.ensures
