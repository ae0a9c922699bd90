use Rattle.sigstore_tuf_text.specs.Piece.{piece_in}
use Rattle.sigstore_tuf_text.proofs.Rows.{row_step}
use Rattle.sigstore_tuf_text.proofs.row.row_before.Goals as goal

pub loop-k-preserved : goal.loop-k-preserved
loop-k-preserved c = λ pieces known.
    let made = c.loop-k.invariant pieces known in
    rw c.in_ok-push-2.ensures.items (row_step (piece_in c.args.piece.now) pieces c.args.back.now c.args.later.now c.loop-k.row.items c.loop-k.k c.index-back-k.result c.loop-k.here c.extends-here.result c.loop-k-test.true c.index-back-k.is known made.0 made.1 c.extends-here.ensures)
