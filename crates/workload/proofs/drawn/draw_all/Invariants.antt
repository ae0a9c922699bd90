use Rattle.std.proofs.Common.{◌≡◌, ◌-◌, ◌++◌}
use Rattle.workload.specs.Drawn.{drawn_from}
use Rattle.workload.proofs.drawn.draw_all.Given as goal

abbrev pub invariant-items : goal.invariant-items
invariant-items l = drawn_from 0 l.fn.start l.fn.count ≡ l.items ++ drawn_from l.index l.number (l.fn.count - l.index)
