use Rattle.std.proofs.Common.{◌+◌, ◌∙◌, ap}
use Rattle.std.specs.Option.{option_or}
use Rattle.path_core.specs.Counts.{under}
use Rattle.path_core.specs.Search.{setting_of, over_ways, over_next}
use Rattle.path_core.proofs.Judging.{keeps_same, keeps_both, agrees_before}
use Rattle.path_core.proofs.Levels.{add_step, add_end, first_all, over_onward}
use Rattle.path_core.proofs.level.add_all.Goals as goal

pub positions-init : goal.positions-init
positions-init g c =
    let w = setting_of g.C.CryptoProvider.accepts c.args.given.now in (
      keeps_same w c.args.made.now c.requires.right,
      c.requires.next,
      λ judge agrees r. let v = under w judge in
          ap (option_or (over_ways v r (c.args.below + 1) c.args.next.now.ways.items)) (first_all (over_next v r c.args.below c.args.way.now) _),
    )

pub positions-preserved : goal.positions-preserved
positions-preserved g c =
    let w = setting_of g.C.CryptoProvider.accepts c.args.given.now in
    let l = c.positions in
    let keeps = c.in_ok-add_over.ensures.keeps in (
      keeps_both w _ _ _ l.invariant.0 keeps,
      c.in_ok-add_over.ensures.next,
      λ judge agrees r. let v = under w judge in
          add_step (over_next v r c.args.below c.args.way.now) l.position _ (over_ways v r (c.args.below + 1) l.next.ways.items) _ _ c.positions-test.true
          (l.invariant.2 judge (agrees_before w _ _ judge keeps agrees) r) (c.in_ok-add_over.ensures.added judge agrees r),
    )

pub returns-clause-added : goal.returns-clause-added
returns-clause-added g c = λ judge agrees r.
    let v = under (setting_of g.C.CryptoProvider.accepts c.args.given.now) judge in
    let l = c.positions in
    ap (option_or (over_ways v r (c.args.below + 1) c.args.next.now.ways.items)) (over_onward v r c.args.below c.args.way.now)
    ∙ add_end (over_next v r c.args.below c.args.way.now) l.position _ _ _ c.positions-test.false (l.invariant.2 judge agrees r)
