use Rattle.std.proofs.Common.{length}
use Rattle.sigstore_merkle.proofs.tree.+build_tree.Given as goal

abbrev pub decreases-build_tree : goal.decreases-build_tree
decreases-build_tree l = length l.leaves.now
