use Rattle.std.proofs.Common.{◌≡◌, length}
use Rattle.sigstore_pem.specs.Pem.{lines_of, base64_before}
use Rattle.sigstore_pem.proofs.BlockFacts.{behind}
use Rattle.sigstore_pem.proofs.block.base64_before.Given as goal

abbrev pub invariant-lines : goal.invariant-lines
invariant-lines l = base64_before l.end (lines_of l.text) ≡ behind l.base64.items (base64_before l.end (lines_of l.rest))

abbrev pub decreases-lines : goal.decreases-lines
decreases-lines l = length l.rest
