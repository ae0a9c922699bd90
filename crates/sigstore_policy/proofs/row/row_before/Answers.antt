use Rattle.sigstore_policy.specs.Piece.{piece_in}
use Rattle.sigstore_policy.proofs.Rows.{row_step}
use Rattle.sigstore_policy.proofs.row.row_before.Goals as goal

pub loop-k-preserved : goal.loop-k-preserved
loop-k-preserved c = λ pieces known.
    let made = c.loop-k.invariant pieces known in
    rw c.in_ok-push-2.ensures.items (row_step (piece_in c.args.piece.now) pieces c.args.back.now c.args.later.now c.loop-k.row.items c.loop-k.k c.loop-k.here c.extends-here.result c.loop-k-test.true known made.0 made.1 c.extends-here.ensures)
