use Rattle.std.proofs.Common.{suc, List, length, ◌<◌, subst}
use Rattle.path_core.specs.declared.way.Way.{Way}
use Rattle.path_core.specs.Counts.{under}
use Rattle.path_core.specs.Search.{setting_of}
use Rattle.path_core.proofs.Judging.{keeps_both, agrees_before}
use Rattle.path_core.proofs.Levels.{ways_step}
use Rattle.path_core.proofs.level.next_level.Goals as goal

pub ways-preserved : goal.ways-preserved
ways-preserved g c =
    let w = setting_of g.C.CryptoProvider.accepts c.args.given.now in
    let l = c.ways in
    let keeps = c.in_ok-add_all.ensures.keeps in (
      keeps_both w _ _ _ l.invariant.0 keeps,
      c.in_ok-add_all.ensures.next,
      λ judge agrees r.
          ways_step (under w judge) (suc r) c.args.below l.way-index c.args.level.now.ways.items c.way-item.result _ _ _ (subst (λ (items : List Way). l.way-index < length items) c.deref-way-items.ensures.value c.ways-test.true) (rw c.deref-way-items.ensures.value at c.way-item.is)
          (l.invariant.2 judge (agrees_before w _ _ judge keeps agrees) r) (c.in_ok-add_all.ensures.added judge agrees r),
    )
