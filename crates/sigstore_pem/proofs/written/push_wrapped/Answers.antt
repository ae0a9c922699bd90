use Rattle.std.proofs.Common.{◌≡◌, ◌++◌, ◌<◌, ap, sym, ◌∙◌, length, arith}
use Rattle.std.proofs.lemmas.List.{append-nil}
use Rattle.sigstore_pem.specs.Written.{wrapped}
use Rattle.sigstore_pem.proofs.WrittenFacts.{pushed_line, wrapped_none, wrapped_last}
use Rattle.sigstore_pem.proofs.written.push_wrapped.Goals as goal

pub lines-preserved : goal.lines-preserved
lines-preserved c =
    pushed_line (c.args.text.now.items ++ wrapped c.args.base64.now) c.lines.text.items c.push_line.new.text.items c.lines.rest.now c.split_at.result.0.now c.split_at.result.1.now
    c.lines.invariant c.lines-test.true c.split_at.ensures.front c.split_at.ensures.back c.in_ok-push_line.ensures

pub returns-then-is_empty : goal.returns-then-is_empty
returns-then-is_empty c =
    let none : length c.lines.rest.now ≡ 0 = grind (arith, c.if-is_empty.true, c.is_empty.ensures) in
    sym (c.lines.invariant ∙ ap (λ x. c.lines.text.items ++ x) (wrapped_none c.lines.rest.now none) ∙ append-nil c.lines.text.items)

pub returns : goal.returns
returns c =
    let some : 0 < length c.lines.rest.now = grind (arith, c.if-is_empty.false, c.is_empty.ensures) in
    let last = wrapped_last c.lines.rest.now some (omega arith) in
    c.in_ok-push_line-2.ensures ∙ ap (λ x. c.lines.text.items ++ x) (sym last) ∙ sym c.lines.invariant
