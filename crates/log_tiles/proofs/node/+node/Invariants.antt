use Rattle.log_tiles.proofs.node.+node.Given as goal

abbrev pub decreases-node : goal.decreases-node
decreases-node g l = l.part.count
