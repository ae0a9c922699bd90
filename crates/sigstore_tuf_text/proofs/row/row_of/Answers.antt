use Rattle.std.proofs.Common.{◌∷◌, map}
use Rattle.sigstore_tuf_text.specs.Piece.{piece_in}
use Rattle.sigstore_tuf_text.proofs.Rows.{taken_last}
use Rattle.sigstore_tuf_text.proofs.row.row_of.Goals as goal

pub pieces-preserved : goal.pieces-preserved
pieces-preserved c =
    let known = c.pieces.invariant in
    (c.piece-item.result ∷ known.0, taken_last c.pieces.rest.now known.0 c.args.pieces.now c.piece-item.result c.in-len1-up.len_at_least c.piece-item.is known.1, c.in_ok-row-2.ensures (map piece_in known.0) (rw c.as_slice.ensures.value known.2))
