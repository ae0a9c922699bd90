use Rattle.std.proofs.Common.{◌<◌, ap, sym, ◌∙◌, ◌∷◌, length, arith}
use Rattle.sigstore_pem.specs.Pem.{lines_of}
use Rattle.sigstore_pem.proofs.LineFacts.{cut_at, no_lines_of}
use Rattle.sigstore_pem.proofs.lines.cut_line.Goals as goal

pub returns-then-is_empty : goal.returns-then-is_empty
returns-then-is_empty c = no_lines_of c.args.text.now (grind (arith, c.if-is_empty.true, c.is_empty.ensures))

pub returns : goal.returns
returns c =
    let text = c.args.text.now in
    let rest = c.behind_end.result.now in
    let some : 0 < length text = grind (arith, c.if-is_empty.false, c.is_empty.ensures) in (
      cut_at text c.split_at.result.1.now rest c.line_length.result c.line_length.ensures.within some c.line_length.ensures.plain c.line_length.ensures.end
          c.split_at.ensures.back c.behind_end.ensures.end c.behind_end.ensures.empty ∙ ap (λ x. x ∷ lines_of rest) (sym c.split_at.ensures.front),
      omega arith,
    )
