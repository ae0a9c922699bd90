use Rattle.std.proofs.Common.{◌∙◌, Ok, ap, sym, arith, ℕ}
use Rattle.std.proofs.lemmas.Result.{err_from_is_err_and}
use Rattle.std.specs.Ordering.{nat_cmp}
use Rattle.std.specs.Cmp.Lexicographic.{slice_cmp}
use Rattle.der_grammar.proofs.Placing.{placing_refused, place_less, place_equal, place_greater, ends_placing}
use Rattle.der_grammar.proofs.set.place_for.Goals as goal

pub returns-in_err-other-clause-err : goal.returns-in_err-other-clause-err
returns-in_err-other-clause-err g c =
    let p = err_from_is_err_and c.from_residual.result c.from_residual.ensures.1 in
    rw (p.1, p.2) (placing_refused c.in_err-other.field-0.0 g.T.Der.grammar c.args.key.now c.args.members.now c.members.member-index c.member-item.result c.members-test.true c.member-item.is c.in_err-other.ensures.err c.members.invariant.0)

pub returns-in-Less-clause-ok : goal.returns-in-Less-clause-ok
returns-in-Less-clause-ok g c = place_less g.T.Der.grammar c.args.key.now c.in_ok-other.other c.args.members.now c.members.member-index c.member-item.result c.members-test.true c.member-item.is c.in_ok-other.ensures.ok (ap (slice_cmp nat_cmp c.args.key.now) (sym c.as_bytes.ensures) ∙ sym c.in-Less.ensures) c.members.invariant.0 ∙ ap (λ (z : ℕ). Ok z) (sym c.members.invariant.1)

pub returns-in-Equal-clause-err : goal.returns-in-Equal-clause-err
returns-in-Equal-clause-err g c = λ other. place_equal g.T.Der.grammar c.args.key.now c.in_ok-other.other c.args.members.now c.members.member-index c.member-item.result c.members-test.true c.member-item.is c.in_ok-other.ensures.ok (ap (slice_cmp nat_cmp c.args.key.now) (sym c.as_bytes.ensures) ∙ sym c.in-Equal.ensures) c.members.invariant.0

pub members-preserved : goal.members-preserved
members-preserved g c = (place_greater g.T.Der.grammar c.args.key.now c.in_ok-other.other c.args.members.now c.members.member-index c.member-item.result c.members-test.true c.member-item.is c.in_ok-other.ensures.ok (ap (slice_cmp nat_cmp c.args.key.now) (sym c.as_bytes.ensures) ∙ sym c.in-Greater.ensures) c.members.invariant.0, omega arith)

pub returns-clause-ok : goal.returns-clause-ok
returns-clause-ok g c = ends_placing g.T.Der.grammar c.args.key.now c.args.members.now c.members.member-index (omega arith) c.members.invariant.0 ∙ ap (λ (z : ℕ). Ok z) (sym c.members.invariant.1)
