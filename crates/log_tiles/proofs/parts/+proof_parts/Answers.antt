use Rattle.std.proofs.Common.{arith}
use Rattle.log_tiles.proofs.PartSteps.{proof_whole, proof_part, proof_in_left, proof_in_right}
use Rattle.log_tiles.proofs.parts.+proof_parts.Goals as goal

pub returns-then-whole : goal.returns-then-whole
returns-then-whole t c =
    rw (c.if-whole.true, c.new.ensures) (proof_whole c.args.first c.args.part c.requires.some c.if-first-part.true)

pub returns-else-whole : goal.returns-else-whole
returns-else-whole t c =
    rw c.if-whole.false
    (proof_part c.args.first c.args.part c.with_part.result c.requires.some c.if-first-part.true
    (rw c.new-else-whole.ensures at c.with_part.ensures))

pub returns-in_ok-parts : goal.returns-in_ok-parts
returns-in_ok-parts t c =
    proof_in_right c.args.first c.args.whole c.args.part _ _ c.in_ok-parts.parts c.with_part-then-left-first.result c.halves.ensures
    c.requires.some
    (omega arith) c.if-left-first.true c.in_ok-parts.ensures c.with_part-then-left-first.ensures

pub returns-in_ok-parts-2 : goal.returns-in_ok-parts-2
returns-in_ok-parts-2 t c =
    proof_in_left c.args.first c.args.whole c.args.part _ _ c.in_ok-parts-2.parts c.with_part-else-left-first.result c.halves.ensures
    c.requires.some
    (omega arith) c.if-left-first.false c.in_ok-parts-2.ensures c.with_part-else-left-first.ensures
