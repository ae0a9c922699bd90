use Rattle.log_tiles.proofs.Nodes.{prefix_is}
use Rattle.log_tiles.proofs.compare.is_prefix.Goals as goal

pub returns : goal.returns
returns c = prefix_is c.args.second.now c.args.first.now _ c.starts_with.ensures.value
