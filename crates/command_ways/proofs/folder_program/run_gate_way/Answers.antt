use Rattle.command_ways.proofs.FolderMeaning.{gate_means, gate_rests}
use Rattle.command_ways.proofs.FolderCompleting.{gate_completes}
use Rattle.command_ways.proofs.folder_program.run_gate_way.Goals as goal

pub returns-clause-means : goal.returns-clause-means
returns-clause-means g c = gate_means _ _ _ _ _ _ _ _ c.decide-said.ensures c.finish.ensures

pub returns-clause-complete : goal.returns-clause-complete
returns-clause-complete g c = gate_completes _ _ _ _ _ _ _ _ c.decide-said.ensures c.finish.ensures

pub returns-clause-rests : goal.returns-clause-rests
returns-clause-rests g c = gate_rests _ _ _ _ _ _ _ _ c.decide-said.ensures c.finish.ensures
