use Rattle.std.proofs.Common.{◌∷◌, ◌-◌, length, get_or, map}
use Rattle.sigstore_policy.specs.declared.pattern.PatternPiece.TheVariants.{AnyRun}
use Rattle.sigstore_policy.specs.Piece.{piece_in}
use Rattle.sigstore_policy.proofs.Rows.{taken_last}
use Rattle.sigstore_policy.proofs.row.row_of.Goals as goal

pub pieces-preserved : goal.pieces-preserved
pieces-preserved c =
    let known = c.pieces.invariant in
    let rest = c.pieces.rest.now in
    (get_or rest (length rest - 1) AnyRun ∷ known.0, taken_last rest known.0 c.args.pieces.now AnyRun c.in-len1-up.len_at_least known.1, c.in_ok-row-2.ensures (map piece_in known.0) (rw c.as_slice.ensures.value known.2))
