use Rattle.std.proofs.Common.{◌<◌, ◌-◌, length}
use Rattle.release_gate.proofs.Order.{Apart}
use Rattle.release_gate.proofs.names.first_doubled.Given as goal

-- no two neighbours so far are one
abbrev pub invariant-pairs : goal.invariant-pairs
invariant-pairs l = record {
  some : 0 < l.at;
  apart : Apart l.names l.at;
}

abbrev pub decreases-pairs : goal.decreases-pairs
decreases-pairs l = length l.names - l.at
