use Rattle.std.proofs.Common.{◌≡◌, ◌++◌, Ok, length}
use Rattle.foundation.specs.Steps.{◌>>=◌}
use Rattle.sigstore_entries.specs.Checkpoint.{lines_of, signatures_of}
use Rattle.sigstore_entries.proofs.signature_line.read_signatures.Given as goal

-- reading all is reading what is left, after what was found
abbrev pub invariant-lines : goal.invariant-lines
invariant-lines l = signatures_of (lines_of l.text) ≡ (signatures_of (lines_of l.rest) >>= λ others. Ok (l.found ++ others))

abbrev pub decreases-lines : goal.decreases-lines
decreases-lines l = length l.rest
