use Rattle.std.proofs.Common.{length}
use Rattle.log_tiles.proofs.reading.+find.Given as goal

abbrev pub decreases-find : goal.decreases-find
decreases-find l = length l.read.now
