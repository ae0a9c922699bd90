use Rattle.command_gate.proofs.RunEnding.{end_means, end_completes, end_rests}
use Rattle.command_gate.proofs.program.run_gate.Goals as goal

pub returns-clause-means : goal.returns-clause-means
returns-clause-means g c = end_means _ _ _ _ _ _ _ _ c.decide-said.ensures c.finish.ensures

pub returns-clause-complete : goal.returns-clause-complete
returns-clause-complete g c = end_completes _ _ _ _ _ _ _ _ c.decide-said.ensures c.finish.ensures

pub returns-clause-rests : goal.returns-clause-rests
returns-clause-rests g c = end_rests _ _ _ _ _ _ _ _ c.decide-said.ensures c.finish.ensures
