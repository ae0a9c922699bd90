use Rattle.command_generate.proofs.RunEnding.{end_means}
use Rattle.command_generate.proofs.generated.run_generate.Goals as goal

pub returns : goal.returns
returns g c = end_means _ _ _ _ _ c.answered-said.ensures c.finish.ensures
