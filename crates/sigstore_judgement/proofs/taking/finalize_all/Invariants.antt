use Rattle.std.proofs.Common.{◌≡◌, ◌++◌, length}
use Rattle.std.specs.Vec.Iter.{into_iter_items, into_iter_len}
use Rattle.sigstore_judgement.specs.Taken.{Finalized}
use Rattle.sigstore_judgement.proofs.taking.finalize_all.Given as goal

abbrev pub invariant-each : goal.invariant-each
invariant-each l = (l.yielded ++ into_iter_items l.hasher-iterator ≡ into_iter_items l.initial.hasher-iterator) × Finalized l.yielded l.digests
    × (into_iter_len l.hasher-iterator ≡ length (into_iter_items l.hasher-iterator))
