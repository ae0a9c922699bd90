use Rattle.std.proofs.Common.{◌≡◌, ◌+◌, vec_len}
use Rattle.sigstore_types_parts.proofs.file.read_within.Given as goal

abbrev pub invariant-loop-bytes : goal.invariant-loop-bytes
invariant-loop-bytes g l = vec_len l.bytes + l.left ≡ l.max

abbrev pub decreases-loop-bytes : goal.decreases-loop-bytes
decreases-loop-bytes g l = l.left
