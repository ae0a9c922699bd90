use Rattle.std.proofs.Common.{◌≡◌, List, ◌++◌, length, map}
use Rattle.sigstore_policy.specs.declared.pattern.PatternPiece.{PatternPiece}
use Rattle.sigstore_policy.specs.Piece.{piece_in, IsRow}
use Rattle.sigstore_policy.proofs.row.row_of.Given as goal

-- the row is of the pieces after those that are left
abbrev pub invariant-pieces : goal.invariant-pieces
invariant-pieces l = (later : List PatternPiece) × (l.rest ++ later ≡ l.pieces) × IsRow (map piece_in later) l.back l.row.items

abbrev pub decreases-pieces : goal.decreases-pieces
decreases-pieces l = length l.rest
