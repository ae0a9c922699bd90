use Rattle.std.proofs.Common.{◌≡◌, drop}
use Rattle.sigstore_judgement.specs.Artifact.{digest_among, has_each}
use Rattle.sigstore_judgement.proofs.artifact.has_each.Given as goal

abbrev pub invariant-each : goal.invariant-each
invariant-each l = has_each l.needed (digest_among l.digests) ≡ has_each (drop l.algorithm-index l.needed) (digest_among l.digests)
