use Rattle.std.proofs.Common.{map}
use Rattle.std.proofs.lemmas.List.{length-map}
use Rattle.sigstore_tuf_text.specs.Piece.{piece_in}
use Rattle.sigstore_tuf_text.proofs.Patterns.{uneven}
use Rattle.sigstore_tuf_text.proofs.pattern.all_fit.Goals as goal

pub returns-then-patterns-segments : goal.returns-then-patterns-segments
returns-then-patterns-segments c =
    uneven (map (λ pieces. map piece_in pieces.items) c.args.patterns.now) (map (λ s. s.now) c.args.segments.now) (rw (length-map, length-map) c.if-patterns-segments.true)
