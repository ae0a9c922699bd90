use Rattle.std.proofs.Common.{◌≡◌, take}
use Rattle.sigstore_keys.specs.Digest.{digests_by}
use Rattle.sigstore_judgement.proofs.taking.digests_in.Given as goal

abbrev pub invariant-each : goal.invariant-each
invariant-each l = l.digests ≡ digests_by (take l.algorithm-index l.algorithms) l.bytes
