use Rattle.std.proofs.Common.{◌-◌, sym, ◌∙◌, arith, get_or}
use Rattle.std.proofs.lemmas.List.{get_or_default}
use Rattle.std.proofs.lemmas.Slice.Eq.{bytes_eq-Decides}
use Rattle.release_gate.proofs.Order.{is_first_doubled, apart_climbs, climbs_strict}
use Rattle.release_gate.proofs.names.first_doubled.Goals as goal

pub returns-then-eq-clause-some : goal.returns-then-eq-clause-some
returns-then-eq-clause-some c d =
    let names = c.args.names.now in
    let at = c.pairs.at in
    is_first_doubled names at (get_or names at d) c.requires c.pairs.invariant.some c.pairs-test.true c.pairs.invariant.apart
    (λ e. get_or_default names (at - 1) e _ (omega arith) ∙ sym c.index-names-at.is ∙ (bytes_eq-Decides _ _).0 (sym c.eq.ensures ∙ c.if-eq.true) ∙ c.index-names-at-in-pairs.is ∙ get_or_default names at _ e c.pairs-test.true)
    (λ e. get_or_default names at e d c.pairs-test.true)

pub returns-clause-none : goal.returns-clause-none
returns-clause-none c = λ none. climbs_strict c.args.names.now (apart_climbs c.args.names.now c.pairs.at c.requires c.pairs-test.false c.pairs.invariant.apart)
