use Rattle.std.proofs.Common.{◌≡◌, length}
use Rattle.der_core.specs.Unsigned.{without_zeros}
use Rattle.der_core.proofs.uint.significant.Given as goal

abbrev pub invariant-zeros : goal.invariant-zeros
invariant-zeros l = without_zeros l.digits ≡ without_zeros l.bytes

abbrev pub decreases-zeros : goal.decreases-zeros
decreases-zeros l = length l.digits
