use Rattle.std.proofs.Common.{◌≡◌, ◌+◌, ◌<◌, ◌∷◌, ap, ◌∙◌, length, arith}
use Rattle.std.proofs.lemmas.List.{length-append}
use Rattle.sigstore_entries.specs.Checkpoint.{lines_of, signed_of}
use Rattle.sigstore_entries.proofs.LineFacts.{signed_more}
use Rattle.sigstore_entries.proofs.checkpoint.signed_length.Goals as goal

pub lines-preserved : goal.lines-preserved
lines-preserved c =
    let line = c.in-Some.line.now in
    let next = c.in-Some.next.now in
    let some : 0 < length line = grind (arith, c.if-is_empty.false, c.is_empty.ensures) in
    let more : length (signed_of (lines_of c.lines.rest.now)) ≡ length line + length (10 ∷ signed_of (lines_of next)) =
    ap (λ lines. length (signed_of lines)) c.in-Some.ensures.0 ∙ ap length (signed_more line next some) ∙ length-append line (10 ∷ signed_of (lines_of next)) in
    omega (arith, more, c.in-Some.ensures.1, c.lines.invariant)
