use Rattle.std.proofs.Common.{◌≡◌, map, drop}
use Rattle.sigstore_tuf_text.specs.Pattern.{all_fit}
use Rattle.sigstore_tuf_text.specs.Piece.{piece_in}
use Rattle.sigstore_tuf_text.proofs.pattern.all_fit.Given as goal

-- those that are left decide
abbrev pub invariant-loop-k : goal.invariant-loop-k
invariant-loop-k l =
    all_fit (map (λ pieces. map piece_in pieces.items) (drop l.k l.patterns)) (map (λ s. s.now) (drop l.k l.segments))
    ≡ all_fit (map (λ pieces. map piece_in pieces.items) l.patterns) (map (λ s. s.now) l.segments)
