use Rattle.path_core.proofs.FirstPath.{found_is}
use Rattle.path_core.proofs.find.find_path.Goals as goal

pub returns-in-Ok-clause-path : goal.returns-in-Ok-clause-path
returns-in-Ok-clause-path g c = found_is _ _ c.in-Ok.ensures.ok
