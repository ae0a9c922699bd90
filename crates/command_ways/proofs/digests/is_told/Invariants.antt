use Rattle.std.proofs.Common.{◌≡◌, drop}
use Rattle.command_ways.specs.Digests.{is_told}
use Rattle.command_ways.proofs.digests.is_told.Given as goal

abbrev pub invariant-loop-digest : goal.invariant-loop-digest
invariant-loop-digest l = is_told l.algorithm (drop l.digest-index l.told) ≡ is_told l.algorithm l.told
