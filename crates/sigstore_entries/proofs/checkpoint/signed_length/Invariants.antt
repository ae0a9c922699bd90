use Rattle.std.proofs.Common.{◌≡◌, ◌+◌, length}
use Rattle.sigstore_entries.specs.Checkpoint.{lines_of, signed_of}
use Rattle.sigstore_entries.proofs.checkpoint.signed_length.Given as goal

-- what was passed over, and what is still signed
abbrev pub invariant-lines : goal.invariant-lines
invariant-lines l = length (signed_of (lines_of l.text)) + length l.rest ≡ length l.text + length (signed_of (lines_of l.rest))

abbrev pub decreases-lines : goal.decreases-lines
decreases-lines l = length l.rest
