use Rattle.std.proofs.Common.{List, ℕ}
use Rattle.sigstore_keys.proofs.SoFar.{SoFar}
use Rattle.sigstore_keys.proofs.reader.hash_reader.Given as goal

abbrev pub invariant-pieces : goal.invariant-pieces
invariant-pieces g l =
    let seen = g.A.ArtifactSource.seen in
    (bytes : List ℕ) × SoFar g.H.HashUpdate.grows (seen l.fn.source) (seen l.source) l.fn.hashers l.hashers l.max l.left bytes

abbrev pub decreases-pieces : goal.decreases-pieces
decreases-pieces g l = l.left
