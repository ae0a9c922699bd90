use Rattle.log_tiles.proofs.Octets.{run_some}
use Rattle.log_tiles.proofs.memory_tiles.tile_of.Goals as goal

pub tile_octets-requires-clause-some : goal.tile_octets-requires-clause-some
tile_octets-requires-clause-some c = rw c.in-Some-leaves_below.ensures.some.1 (run_some c.args.level)
