use Rattle.std.proofs.Common.{[], take}
use Rattle.sigstore_judgement.specs.Taken.{AreOf}
use Rattle.sigstore_judgement.proofs.taking.hashers_for.Given as goal

abbrev pub invariant-each : goal.invariant-each
invariant-each l = AreOf l.hashers.items (take l.algorithm-index l.algorithms) []
