use Rattle.std.proofs.Common.{◌≡◌, ◌++◌, drop, map}
use Rattle.sigstore_tuf_parts.specs.Threshold.{counted_of}
use Rattle.sigstore_tuf_parts.proofs.counted.counted.Given as goal

-- those that were found, and then those of what is left
abbrev pub invariant-loop-signature : goal.invariant-loop-signature
invariant-loop-signature l =
    map (λ s. s.now) l.found.items ++ counted_of l.fn.role_keys (drop l.signature-index l.signatures) ≡ counted_of l.fn.role_keys l.signatures
