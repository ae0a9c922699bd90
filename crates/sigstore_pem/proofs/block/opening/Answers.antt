use Rattle.sigstore_pem.specs.Pem.{lines_of}
use Rattle.sigstore_pem.proofs.BlockFacts.{opening_here, opening_later, opening_nowhere}
use Rattle.sigstore_pem.proofs.block.opening.Goals as goal

pub returns-then-is_opening : goal.returns-then-is_opening
returns-then-is_opening c =
    opening_here (lines_of c.args.text.now) (lines_of c.lines.rest.now) (lines_of c.in-Some.next.now) c.in-Some.line.now c.lines.invariant c.in-Some.ensures.0
    (cc (c.if-is_opening.true, c.is_opening.ensures))

pub lines-preserved : goal.lines-preserved
lines-preserved c =
    opening_later (lines_of c.args.text.now) (lines_of c.lines.rest.now) (lines_of c.in-Some.next.now) c.in-Some.line.now c.lines.invariant c.in-Some.ensures.0
    (cc (c.if-is_opening.false, c.is_opening.ensures))

pub returns : goal.returns
returns c = opening_nowhere (lines_of c.args.text.now) (lines_of c.lines.rest.now) c.lines.invariant c.in_default.ensures
