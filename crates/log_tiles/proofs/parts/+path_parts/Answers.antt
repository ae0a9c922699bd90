use Rattle.log_tiles.proofs.PartSteps.{path_none, path_in_left, path_in_right}
use Rattle.log_tiles.proofs.parts.+path_parts.Goals as goal

pub returns-then-part-eq1 : goal.returns-then-part-eq1
returns-then-part-eq1 t c = rw c.new.ensures (path_none c.args.index c.args.part c.if-part-eq1.true)

pub returns-in_ok-parts : goal.returns-in_ok-parts
returns-in_ok-parts t c =
    path_in_left c.args.index c.args.part _ _ c.in_ok-parts.parts c.with_part.result c.halves.ensures c.if-index-left.true
    c.in_ok-parts.ensures
    c.with_part.ensures

pub returns-in_ok-parts-2 : goal.returns-in_ok-parts-2
returns-in_ok-parts-2 t c =
    path_in_right c.args.index c.args.part _ _ c.in_ok-parts-2.parts c.with_part-else-index-left.result c.halves.ensures
    c.if-index-left.false
    c.in_ok-parts-2.ensures c.with_part-else-index-left.ensures
