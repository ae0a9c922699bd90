use Rattle.std.proofs.Common.{◌-◌}
use Rattle.log_tiles.proofs.Places.{Climbed}
use Rattle.log_tiles.proofs.place.place_of.Given as goal

abbrev pub invariant-levels : goal.invariant-levels
invariant-levels l = Climbed l.start l.count l.level l.run

abbrev pub decreases-levels : goal.decreases-levels
decreases-levels l = l.count - l.run
