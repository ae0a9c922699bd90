use Rattle.std.proofs.Common.{◌≡◌, ◌-◌, ◌++◌, length, take, drop, map, option_map, Some, sym, ap, ◌∙◌}
use Rattle.std.proofs.lemmas.List.{map-append}
use Rattle.sigstore_tuf_text.specs.Pattern.{piece_of, pieces_after}
use Rattle.sigstore_tuf_text.specs.Piece.{piece_in, left_of}
use Rattle.sigstore_tuf_text.proofs.Patterns.{apart, piece_more}
use Rattle.sigstore_tuf_text.proofs.pattern.read_pieces.Goals as goal

pub pieces-preserved : goal.pieces-preserved
pieces-preserved c =
    let left = c.pieces.left.now in
    let later = take (length left - 1) (drop 1 left) in
    let done = map piece_in c.pieces.pieces.items in
    let is : Some (piece_in c.in-Some.read.piece, c.in-Some.read.rest.now) ≡ left_of later (piece_of c.first-item.result later) = rw c.in-Some.is at c.in_ok-read.ensures.exact in
    let whole = apart left c.first-item.result c.in-len1-up.len_at_least c.first-item.is in
    rw (c.in_ok-push-in-Some.ensures.items, map-append)
    (piece_more done c.first-item.result later c.in-Some.read.rest.now (piece_in c.in-Some.read.piece) is
    ∙ ap (λ t. option_map (λ ps. done ++ ps) (pieces_after t 0)) (sym whole)
    ∙ c.pieces.invariant)
