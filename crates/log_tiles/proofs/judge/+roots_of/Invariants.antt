use Rattle.std.proofs.Common.{length}
use Rattle.log_tiles.proofs.judge.+roots_of.Given as goal

abbrev pub decreases-roots_of : goal.decreases-roots_of
decreases-roots_of l = length l.hashes.now
