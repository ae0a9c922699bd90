use Rattle.std.proofs.Common.{◌≡◌, suc, ◌+◌, length, None, sym, subst, ap, ◌∙◌, ⊎_elim, arith}
use Rattle.std.proofs.lemmas.Bool.{cases_eq}
use Rattle.path_core.specs.Counts.{under}
use Rattle.path_core.specs.Search.{setting_of, best, over_ways}
use Rattle.path_core.proofs.Judging.{keeps_same, keeps_both, agrees_before}
use Rattle.path_core.proofs.Least.{first_found, no_path}
use Rattle.path_core.proofs.Levels.{start_finds, none_where_no_some}
use Rattle.path_core.proofs.find.search.Goals as goal

pub levels-init : goal.levels-init
levels-init g c =
    let w = setting_of g.C.CryptoProvider.accepts c.args.given.now in
    let n = length c.args.given.now.intermediates.now in (
      keeps_same w c.args.made.now c.requires.right,
      c.in_ok-level.ensures.level,
      (λ judge agrees r. let v = under w judge in
          let from_none : r ≡ 0 + r = omega arith in
          ap (over_ways v r 0) c.in_ok-level.ensures.way ∙ start_finds v r n ∙ ap (λ k. best v k 0 n) from_none),
      λ judge agrees k h. absurd (omega arith),
    )

pub returns-in-Some-clause-first : goal.returns-in-Some-clause-first
returns-in-Some-clause-first g c = λ judge agrees.
    let w = setting_of g.C.CryptoProvider.accepts c.args.given.now in
    let v = under w judge in
    let n = length c.args.given.now.intermediates.now in
    let l = c.levels in
    let before = agrees_before w _ _ judge c.in_ok-found.ensures.keeps agrees in
    let here : l.below + 0 ≡ l.below = omega arith in
    first_found v l.below c.in-Some.found (let h = c.levels-test.true in omega arith)
    (ap (λ k. best v k 0 n) (sym here) ∙ sym (l.invariant.2 judge before 0) ∙ sym (c.in_ok-found.ensures.found judge agrees l.below) ∙ c.in-Some.is)
    (l.invariant.3 judge before) c.requires.leaf

pub levels-preserved : goal.levels-preserved
levels-preserved g c =
    let w = setting_of g.C.CryptoProvider.accepts c.args.given.now in
    let n = length c.args.given.now.intermediates.now in
    let l = c.levels in
    let ended = c.in_ok-found.ensures.keeps in
    let went = c.in_ok-next.ensures.keeps in
    let here : l.below + 0 ≡ l.below = omega arith in
    let nothing : c.in_ok-found.field-0 ≡ None = none_where_no_some c.in_ok-found.field-0 (λ x h. c.in_default.not-Some x h) in (
      keeps_both w _ _ _ l.invariant.0 (keeps_both w _ _ _ ended went),
      c.in_ok-next.ensures.level,
      (λ judge agrees r. let v = under w judge in
          let before = agrees_before w _ _ judge ended (agrees_before w _ _ judge went agrees) in
          let on : l.below + suc r ≡ l.below + 1 + r = omega arith in
          c.in_ok-next.ensures.next judge agrees r ∙ l.invariant.2 judge before (suc r) ∙ ap (λ k. best v k 0 n) on),
      λ judge agrees k h. let v = under w judge in
          let between = agrees_before w _ _ judge went agrees in
          let before = agrees_before w _ _ judge ended between in
          let none : best v l.below 0 n ≡ None = ap (λ k. best v k 0 n) (sym here) ∙ sym (l.invariant.2 judge before 0) ∙ sym (c.in_ok-found.ensures.found judge between l.below) ∙ nothing in
          ⊎_elim (λ same. subst (λ k. best v k 0 n ≡ None) (sym same) none) (λ ne. l.invariant.3 judge before k (omega arith)) (cases_eq k l.below),
    )

pub returns-in-Some-2-clause-first : goal.returns-in-Some-2-clause-first
returns-in-Some-2-clause-first g c = λ judge agrees.
    let w = setting_of g.C.CryptoProvider.accepts c.args.given.now in
    let v = under w judge in
    let n = length c.args.given.now.intermediates.now in
    let l = c.levels in
    let before = agrees_before w _ _ judge c.in_ok-found-2.ensures.keeps agrees in
    let here : l.below + 0 ≡ l.below = omega arith in
    first_found v l.below c.in-Some-2.found c.levels.auto.below-end
    (ap (λ k. best v k 0 n) (sym here) ∙ sym (l.invariant.2 judge before 0) ∙ sym (c.in_ok-found-2.ensures.found judge agrees l.below) ∙ c.in-Some-2.is)
    (l.invariant.3 judge before) c.requires.leaf

pub returns-clause-refused : goal.returns-clause-refused
returns-clause-refused g c = λ judge agrees.
    let w = setting_of g.C.CryptoProvider.accepts c.args.given.now in
    let v = under w judge in
    let n = length c.args.given.now.intermediates.now in
    let l = c.levels in
    let before = agrees_before w _ _ judge c.in_ok-found-2.ensures.keeps agrees in
    let here : l.below + 0 ≡ l.below = omega arith in
    let none : best v l.below 0 n ≡ None = ap (λ k. best v k 0 n) (sym here) ∙ sym (l.invariant.2 judge before 0) ∙ sym (c.in_ok-found-2.ensures.found judge agrees l.below) ∙ c.in-None.is in
    let last = c.levels-test.false in
    record {
      leaf = c.requires.leaf;
      none = no_path v (λ k few. ⊎_elim (λ same. subst (λ k. best v k 0 n ≡ None) (sym same) none) (λ ne. l.invariant.3 judge before k (omega arith)) (cases_eq k l.below));
    }
