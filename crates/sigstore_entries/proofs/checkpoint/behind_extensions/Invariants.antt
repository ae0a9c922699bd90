use Rattle.std.proofs.Common.{◌≡◌, length}
use Rattle.sigstore_entries.specs.Checkpoint.{lines_of, behind_extensions}
use Rattle.sigstore_entries.proofs.checkpoint.behind_extensions.Given as goal

abbrev pub invariant-lines : goal.invariant-lines
invariant-lines l = behind_extensions (lines_of l.text) ≡ behind_extensions (lines_of l.rest)

abbrev pub decreases-lines : goal.decreases-lines
decreases-lines l = length l.rest
