use Rattle.std.proofs.Common.{◌≡◌, ◌<◌, ◌^◌, ℕ, ◌-◌}
use Rattle.log_tiles.proofs.split.split.Given as goal

abbrev pub invariant-doubled : goal.invariant-doubled
invariant-doubled l = ((height : ℕ) × (l.part ≡ 2 ^ height)) × (0 < l.part) × (l.part < l.size)

abbrev pub decreases-doubled : goal.decreases-doubled
decreases-doubled l = l.size - l.part
