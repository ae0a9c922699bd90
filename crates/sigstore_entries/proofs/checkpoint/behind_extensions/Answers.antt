use Rattle.std.proofs.Common.{◌≡◌, ap, ◌∙◌, length, arith}
use Rattle.sigstore_entries.specs.Checkpoint.{behind_extensions}
use Rattle.sigstore_entries.proofs.LineFacts.{extensions_end}
use Rattle.sigstore_entries.proofs.checkpoint.behind_extensions.Goals as goal

pub returns-then-is_empty : goal.returns-then-is_empty
returns-then-is_empty c =
    let line = c.in-Some.line.now in
    let empty : length line ≡ 0 = grind (arith, c.if-is_empty.true, c.is_empty.ensures) in
    c.lines.invariant ∙ ap behind_extensions (c.in-Some.ensures.0) ∙ extensions_end line c.in-Some.next.now empty
