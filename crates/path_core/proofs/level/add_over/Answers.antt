use Rattle.std.proofs.Common.{◌≡◌, ◌<◌, ◌≤◌, length, set, All, true, false, subst, sym, ◌∙◌, ap, arith}
use Rattle.std.proofs.lemmas.List.{get_or_read, length-set}
use Rattle.std.proofs.lemmas.List.Elements.{All-push}
use Rattle.path_core.specs.declared.way.Way.{Way}
use Rattle.path_core.specs.Counts.{under}
use Rattle.path_core.specs.Search.{setting_of, AreCovered}
use Rattle.path_core.proofs.Levels.{adds_none, adds_way, covered_push}
use Rattle.path_core.proofs.level.add_over.Goals as goal

pub returns-then-index-clause-added : goal.returns-then-index-clause-added
returns-then-index-clause-added g c = λ judge agrees r.
    let next = c.args.next.now in
    let marks = c.requires.next.marks in
    let position = c.requires.position in
    let within : c.args.position < length next.reached.items = omega arith in
    adds_none (under (setting_of g.C.CryptoProvider.accepts c.args.given.now) judge) r c.args.below c.args.position next.ways.items c.args.way.now
    (c.requires.next.covered c.args.position (sym (get_or_read next.reached.items c.args.position c.index.result.now within c.index.ensures false) ∙ c.if-index.true))

pub returns-in_ok-push-clause-next : goal.returns-in_ok-push-clause-next
returns-in_ok-push-clause-next g c =
    let next = c.args.next.now in
    let n = length c.args.given.now.intermediates.now in
    let items = c.in_ok-push.ensures.items in
    let source : c.in_ok-longer.field-0.source ≡ c.args.position = ap (λ (way : Way). way.source) c.in_ok-longer.ensures in
    let position = c.requires.position in
    record {
      marks = length-set next.reached.items c.args.position true ∙ c.requires.next.marks;
      sources = subst (All (λ (way : Way). way.source ≤ n)) (sym items) (All-push (λ (way : Way). way.source ≤ n) next.ways.items c.in_ok-longer.field-0 c.requires.next.sources (omega arith));
      covered = subst (AreCovered (set next.reached.items c.args.position true)) (sym items) (covered_push next.reached.items next.ways.items c.args.position c.in_ok-longer.field-0 source c.requires.next.covered);
    }

pub returns-in_ok-push-clause-added : goal.returns-in_ok-push-clause-added
returns-in_ok-push-clause-added g c = λ judge agrees r.
    let v = under (setting_of g.C.CryptoProvider.accepts c.args.given.now) judge in
    adds_way v r c.args.below c.args.position c.args.next.now.ways.items c.args.way.now c.push.new.self.items c.in_ok-longer.field-0
    (sym (c.in_ok-is_next.ensures.value judge agrees) ∙ c.if-branch.true) c.in_ok-push.ensures.items c.in_ok-longer.ensures
