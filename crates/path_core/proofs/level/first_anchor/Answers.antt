use Rattle.std.proofs.Common.{◌≡◌, ◌∙◌, ap, cond, Some, None, true, sym}
use Rattle.path_core.specs.declared.route.Route.{Route}
use Rattle.path_core.specs.Counts.{under}
use Rattle.path_core.specs.Search.{setting_of, ends, over_anchor}
use Rattle.path_core.proofs.Judging.{keeps_same, keeps_both, agrees_before}
use Rattle.path_core.proofs.Levels.{first_here, first_over, first_past, first_all, over_end}
use Rattle.path_core.proofs.level.first_anchor.Goals as goal

pub anchors-init : goal.anchors-init
anchors-init g c =
    let w = setting_of g.C.CryptoProvider.accepts c.args.given.now in
    (keeps_same w c.args.made.now c.requires.right, λ judge agrees. first_all (over_anchor (under w judge) c.args.way.now) _)

pub anchors-preserved : goal.anchors-preserved
anchors-preserved g c =
    let w = setting_of g.C.CryptoProvider.accepts c.args.given.now in
    let way = c.args.way.now in
    let l = c.anchors in
    let keeps = c.in_ok-is_end.ensures.keeps in (
      keeps_both w _ _ _ l.invariant.0 keeps,
      λ judge agrees. let v = under w judge in
          first_past (over_anchor v way) l.a _ _ (l.invariant.1 judge (agrees_before w _ _ judge keeps agrees)) c.anchors-test.true
          (ap (λ b. cond b (Some (let p : Route = record { positions = way.positions; anchor = l.a } in p)) None) (sym (c.in_ok-is_end.ensures.value judge agrees) ∙ c.if-branch.false)),
    )

pub returns-then-branch-clause-found : goal.returns-then-branch-clause-found
returns-then-branch-clause-found g c = λ judge agrees below.
    let w = setting_of g.C.CryptoProvider.accepts c.args.given.now in
    let v = under w judge in
    let way = c.args.way.now in
    let path : Route = record { positions = way.positions; anchor = c.anchors.a } in
    let before = c.anchors.invariant.1 judge (agrees_before w _ _ judge c.in_ok-is_end.ensures.keeps agrees) in
    let yes : ends v way.source c.anchors.a ≡ true = sym (c.in_ok-is_end.ensures.value judge agrees) ∙ c.if-branch.true in
    let here : over_anchor v way c.anchors.a ≡ Some path = ap (λ b. cond b (Some path) None) yes in
    ap (λ positions. Some (let p : Route = record { positions = positions; anchor = c.anchors.a } in p)) c.in_ok-duplicate.ensures
    ∙ sym (over_end v below way ∙ first_here (over_anchor v way) c.anchors.a _ _ path before c.anchors-test.true here)

pub returns-clause-found : goal.returns-clause-found
returns-clause-found g c = λ judge agrees below.
    let v = under (setting_of g.C.CryptoProvider.accepts c.args.given.now) judge in
    let way = c.args.way.now in
    sym (over_end v below way ∙ first_over (over_anchor v way) c.anchors.a _ _ (c.anchors.invariant.1 judge agrees) c.anchors-test.false)
