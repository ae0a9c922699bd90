use Rattle.std.proofs.Common.{◌≡◌, ◌++◌, length}
use Rattle.sigstore_pem.specs.Written.{wrapped}
use Rattle.sigstore_pem.proofs.written.push_wrapped.Given as goal

abbrev pub invariant-lines : goal.invariant-lines
invariant-lines l = l.initial.text.items ++ wrapped l.base64 ≡ l.text.items ++ wrapped l.rest

abbrev pub decreases-lines : goal.decreases-lines
decreases-lines l = length l.rest
