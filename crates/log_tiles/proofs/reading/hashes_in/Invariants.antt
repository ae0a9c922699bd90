use Rattle.std.proofs.Common.{length}
use Rattle.log_tiles.proofs.Cuts.{Cut}
use Rattle.log_tiles.proofs.reading.hashes_in.Given as goal

abbrev pub invariant-hashes : goal.invariant-hashes
invariant-hashes l = Cut l.octets l.rest l.hashes

abbrev pub decreases-hashes : goal.decreases-hashes
decreases-hashes l = length l.rest
