use Rattle.std.proofs.Common.{◌≡◌, ◌++◌, length, map}
use Rattle.sigstore_policy.specs.Pattern.{pieces_of}
use Rattle.sigstore_policy.specs.Piece.{piece_in}
use Rattle.sigstore_policy.proofs.pattern.read_pieces.Given as goal

-- those that were read, and then those of what is left
abbrev pub invariant-pieces : goal.invariant-pieces
invariant-pieces l = map piece_in l.pieces.items ++ pieces_of l.left ≡ pieces_of l.pattern

abbrev pub decreases-pieces : goal.decreases-pieces
decreases-pieces l = length l.left
