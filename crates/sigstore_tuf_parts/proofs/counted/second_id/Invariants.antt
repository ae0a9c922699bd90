use Rattle.std.proofs.Common.{◌≡◌, [], drop, map}
use Rattle.sigstore_tuf_parts.specs.Threshold.{ids_of, second_after}
use Rattle.sigstore_tuf_parts.proofs.counted.second_id.Given as goal

-- the first second id is the first among what is left, after those that were seen
abbrev pub invariant-loop-signature : goal.invariant-loop-signature
invariant-loop-signature l =
    second_after [] (ids_of (map (λ s. s.now) l.signatures)) ≡ second_after l.seen (ids_of (map (λ s. s.now) (drop l.signature-index l.signatures)))
