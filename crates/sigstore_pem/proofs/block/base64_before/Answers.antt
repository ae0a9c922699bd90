use Rattle.std.proofs.Common.{ap, sym, ◌∙◌, Some}
use Rattle.sigstore_pem.specs.Pem.{lines_of, base64_before}
use Rattle.sigstore_pem.proofs.BlockFacts.{behind, base64_ends, base64_full, base64_last, base64_refused, base64_open}
use Rattle.sigstore_pem.proofs.block.base64_before.Goals as goal

pub returns-then-eq : goal.returns-then-eq
returns-then-eq c =
    let found = base64_ends c.args.end.now c.lines.base64.items c.in-Some.line.now (lines_of c.args.text.now) (lines_of c.lines.rest.now) (lines_of c.in-Some.next.now)
    c.lines.invariant c.in-Some.ensures.0 (cc (c.if-eq.true, c.eq.ensures)) in
    ap Some c.from_vec.ensures ∙ sym found

pub returns-then-not-is_last : goal.returns-then-not-is_last
returns-then-not-is_last c =
    sym (base64_refused c.args.end.now c.lines.base64.items c.in-Some.line.now (lines_of c.args.text.now) (lines_of c.lines.rest.now) (lines_of c.in-Some.next.now)
    c.lines.invariant c.in-Some.ensures.0 (cc (c.if-eq.false, c.eq.ensures)) c.if-line-ne64.true (sym c.is_last.ensures ∙ c.if-not-is_last.true))

pub returns-then-line-ne64 : goal.returns-then-line-ne64
returns-then-line-ne64 c =
    let found = base64_last c.args.end.now c.lines.base64.items c.in-Some.line.now (lines_of c.args.text.now) (lines_of c.lines.rest.now) (lines_of c.in-Some.next.now)
    c.lines.invariant c.in-Some.ensures.0 (cc (c.if-eq.false, c.eq.ensures)) c.if-line-ne64.true (sym c.is_last.ensures ∙ c.if-not-is_last.false) in
    ap Some (c.from_vec-then-line-ne64.ensures ∙ c.in_ok-extend_from_slice.ensures.items) ∙ sym found

pub lines-preserved : goal.lines-preserved
lines-preserved c =
    base64_full c.args.end.now c.lines.base64.items c.in-Some.line.now (lines_of c.args.text.now) (lines_of c.lines.rest.now) (lines_of c.in-Some.next.now)
    c.lines.invariant c.in-Some.ensures.0 (cc (c.if-eq.false, c.eq.ensures)) c.if-line-ne64.false
    ∙ ap (λ x. behind x (base64_before c.args.end.now (lines_of c.in-Some.next.now))) (sym c.in_ok-extend_from_slice-2.ensures.items)

pub returns : goal.returns
returns c = sym (base64_open c.args.end.now c.lines.base64.items (lines_of c.args.text.now) (lines_of c.lines.rest.now) c.lines.invariant c.in_default.ensures)
