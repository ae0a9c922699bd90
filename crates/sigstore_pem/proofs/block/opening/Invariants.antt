use Rattle.std.proofs.Common.{◌≡◌, length}
use Rattle.sigstore_pem.specs.Pem.{lines_of, from_opening}
use Rattle.sigstore_pem.proofs.block.opening.Given as goal

abbrev pub invariant-lines : goal.invariant-lines
invariant-lines l = from_opening (lines_of l.text) ≡ from_opening (lines_of l.rest)

abbrev pub decreases-lines : goal.decreases-lines
decreases-lines l = length l.rest
