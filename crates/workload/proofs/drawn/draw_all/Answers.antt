use Rattle.workload.proofs.Drawing.{drawn_more}
use Rattle.workload.proofs.drawn.draw_all.Goals as goal

pub items-preserved : goal.items-preserved
items-preserved c =
    drawn_more _ c.items.items c.push.new.self c.in_ok-draw.field-0 c.items.index c.items.number c.next_number-number.result c.args.count
    c.items-test.true c.next_number-number.ensures c.in_ok-draw.ensures c.in_ok-push.ensures.ok c.items.invariant
