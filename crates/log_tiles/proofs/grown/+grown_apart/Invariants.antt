use Rattle.std.proofs.Common.{length}
use Rattle.log_tiles.proofs.grown.+grown_apart.Given as goal

abbrev pub decreases-grown_apart : goal.decreases-grown_apart
decreases-grown_apart l = length l.hashes.now
