use Rattle.path_core.proofs.Least.{found_same}
use Rattle.path_core.proofs.laws.first_is_one.Goals as goal

pub returns : goal.returns
returns g c = found_same g.w c.args.first.now c.args.second.now c.requires.0 c.requires.1
