use Rattle.std.proofs.Common.{◌≡◌, List, ◌∷◌, take, reverse}
use Rattle.sigstore_policy.specs.Pattern.{Piece, fits}
use Rattle.sigstore_policy.specs.Piece.{piece_in, IsRow}
use Rattle.sigstore_policy.proofs.row.row_before.Given as goal

-- the row of the characters so far, and its last answer
abbrev pub invariant-loop-k : goal.invariant-loop-k
invariant-loop-k l =
    (pieces : List Piece) → IsRow pieces l.back l.later
    → IsRow (piece_in l.piece ∷ pieces) (take l.k l.back) l.row.items × (l.here ≡ fits (piece_in l.piece ∷ pieces) (reverse (take l.k l.back)))
