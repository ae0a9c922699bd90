use Rattle.std.proofs.Common.{◌≡◌, take, drop}
use Rattle.sigstore_keys.specs.Hasher.{Fed}
use Rattle.release_gate.proofs.hashing.update_each.Given as goal

abbrev pub invariant-each : goal.invariant-each
invariant-each g l = record {
  fed : Fed g.H.HashUpdate.grows (take l.hasher-index l.fn.hashers) (take l.hasher-index l.hashers) l.piece;
  rest : drop l.hasher-index l.hashers ≡ drop l.hasher-index l.fn.hashers;
}
