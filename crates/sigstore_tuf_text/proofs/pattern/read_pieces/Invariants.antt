use Rattle.std.proofs.Common.{◌≡◌, ◌++◌, length, map, option_map}
use Rattle.sigstore_tuf_text.specs.Pattern.{pieces_after}
use Rattle.sigstore_tuf_text.specs.Piece.{piece_in}
use Rattle.sigstore_tuf_text.proofs.pattern.read_pieces.Given as goal

-- those that were read, and then those of what is left
abbrev pub invariant-pieces : goal.invariant-pieces
invariant-pieces l = option_map (λ ps. map piece_in l.pieces.items ++ ps) (pieces_after l.left 0) ≡ pieces_after l.text 0

abbrev pub decreases-pieces : goal.decreases-pieces
decreases-pieces l = length l.left
