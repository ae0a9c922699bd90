use Rattle.std.proofs.Common.{arith, ◌+◌, ap, sym, ◌∙◌, ◌∷◌, drop, Some, None}
use Rattle.sigstore_entries.specs.Checkpoint.{lines_of}
use Rattle.sigstore_entries.proofs.LineFacts.{cut_found, behind_feed}
use Rattle.sigstore_entries.proofs.lines.cut_line.Goals as goal

pub returns-in-Some : goal.returns-in-Some
returns-in-Some c =
    let text = c.args.text.now in
    let end = c.in-Some.end in
    let found = cut_found text (Some end) (c.in-Some.ensures) in (
      found.1 ∙ ap (λ line. line ∷ lines_of (drop (end + 1) text)) (sym c.split_at.ensures.front)
          ∙ ap (λ rest. c.split_at.result.0.now ∷ lines_of rest) (sym (c.split_at-in-Some.ensures.back ∙ ap (drop 1) c.split_at.ensures.back ∙ behind_feed end text)),
      omega (arith, c.split_at.ensures.front_len, c.split_at.ensures.back_len, c.split_at-in-Some.ensures.back_len, c.split_at-in-Some.ensures.front_len),
    )

pub returns-in-None : goal.returns-in-None
returns-in-None c = cut_found c.args.text.now None c.in-None.ensures
