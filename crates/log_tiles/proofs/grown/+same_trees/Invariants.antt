use Rattle.std.proofs.Common.{length}
use Rattle.log_tiles.proofs.grown.+same_trees.Given as goal

abbrev pub decreases-same_trees : goal.decreases-same_trees
decreases-same_trees l = length l.first.now
