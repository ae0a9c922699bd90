use Rattle.command_files.specs.Starting.{command_of}
use Rattle.command_files.proofs.Endings.{says_and_ends}
use Rattle.command_bundles.specs.Run.{Says}
use Rattle.command_bundles.proofs.Meaning.{run_means, run_keeps}
use Rattle.command_bundles.proofs.Completing.{run_completes}
use Rattle.command_bundles.proofs.program.run_bundles.Goals as goal

pub returns-clause-means : goal.returns-clause-means
returns-clause-means g c =
    run_means (command_of c.args.line.now) _ _ _ _ _ (says_and_ends (Says (command_of c.args.line.now) _ _) _ _ _ c.decide-said.result c.decide-said.ensures c.finish.ensures)

pub returns-clause-keeps : goal.returns-clause-keeps
returns-clause-keeps g c = run_keeps (command_of c.args.line.now) _ _ c.decide-said.result c.decide-said.ensures

pub returns-clause-complete : goal.returns-clause-complete
returns-clause-complete g c =
    run_completes (command_of c.args.line.now) _ _ _ _ _ (says_and_ends (Says (command_of c.args.line.now) _ _) _ _ _ c.decide-said.result c.decide-said.ensures c.finish.ensures)
