use Rattle.log_tiles.proofs.Octets.{Written}
use Rattle.log_tiles.proofs.memory_tiles.tile_octets.Given as goal

abbrev pub invariant-runs : goal.invariant-runs
invariant-runs l = Written l.counter l.run l.leaves l.rest l.octets.items
