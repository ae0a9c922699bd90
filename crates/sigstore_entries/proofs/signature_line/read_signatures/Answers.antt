use Rattle.std.proofs.Common.{◌<◌, length, arith}
use Rattle.sigstore_entries.proofs.LineFacts.{signatures_more}
use Rattle.sigstore_entries.proofs.signature_line.read_signatures.Goals as goal

pub lines-preserved : goal.lines-preserved
lines-preserved c =
    let next = c.in-Some.next.now in
    let some : 0 < length next = grind (arith, c.if-is_empty.false, c.is_empty.ensures) in
    rw c.in_ok-push.ensures.ok (signatures_more c.args.text.now c.lines.rest.now c.in-Some.line.now next c.lines.found c.in_ok-read_signature.field-0 c.lines.invariant c.in-Some.ensures.0 c.in_ok-read_signature.ensures.ok some)
