use Rattle.command_files.proofs.TakenSoFar.{TakenSoFar}
use Rattle.command_files.proofs.whole.read_whole.Given as goal

abbrev pub invariant-pieces : goal.invariant-pieces
invariant-pieces g l =
    let seen = g.A.ArtifactSource.seen in
    TakenSoFar (seen l.fn.source) (seen l.source) l.max l.left l.bytes.items

abbrev pub decreases-pieces : goal.decreases-pieces
decreases-pieces g l = l.left
