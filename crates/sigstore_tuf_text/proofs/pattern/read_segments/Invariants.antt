use Rattle.std.proofs.Common.{◌≡◌, ◌++◌, map, drop, Ok}
use Rattle.foundation.specs.Steps.{◌>>=◌}
use Rattle.sigstore_tuf_text.specs.Pattern.{segments_of}
use Rattle.sigstore_tuf_text.specs.Piece.{piece_in}
use Rattle.sigstore_tuf_text.proofs.pattern.read_segments.Given as goal

-- those that were read, and then those of what is left
abbrev pub invariant-loop-segment : goal.invariant-loop-segment
invariant-loop-segment l =
    (segments_of (map (λ s. s.now) (drop l.segment-index l.segment-items)) >>= λ rest. Ok (map (λ pieces. map piece_in pieces.items) l.read.items ++ rest))
    ≡ segments_of (map (λ s. s.now) l.segment-items)
