use Rattle.std.proofs.lemmas.Result.{err_from_is_err_and}
use Rattle.der_core.proofs.OidText.{text-one, text-refused, text-full, text-open, text-last_full, text-ends}
use Rattle.der_core.proofs.dotted.arcs_of_text.Goals as goal

pub returns-in_err-ended-clause-err : goal.returns-in_err-ended-clause-err
returns-in_err-ended-clause-err c =
    let p = err_from_is_err_and c.from_residual.result c.from_residual.ensures.1 in
    rw (p.1, p.2) (text-refused c.characters.arcs.items c.characters.number c.args.text.now c.characters.character-index c.in_err-ended.field-0.0 c.characters-test.true c.in_err-ended.ensures.err c.characters.invariant)

pub returns-then-not-append_ended-clause-err : goal.returns-then-not-append_ended-clause-err
returns-then-not-append_ended-clause-err c = text-full c.characters.arcs.items c.characters.number c.in_ok-ended.next _ c.args.text.now c.characters.character-index c.characters-test.true c.in_ok-ended.ensures.ok c.if-not-append_ended.ensures.full c.characters.invariant

pub characters-preserved : goal.characters-preserved
characters-preserved c =
    rw c.if-not-append_ended.ensures.ok (text-one c.characters.arcs.items c.characters.number c.in_ok-ended.next _ c.args.text.now c.characters.character-index c.characters-test.true c.in_ok-ended.ensures.ok c.characters.invariant)

pub returns-then-is_none-clause-err : goal.returns-then-is_none-clause-err
returns-then-is_none-clause-err c = text-open c.characters.arcs.items c.characters.number c.args.text.now c.characters.character-index c.characters-test.false c.if-is_none.ensures c.characters.invariant

pub returns-then-not-append_ended-2-clause-err : goal.returns-then-not-append_ended-2-clause-err
returns-then-not-append_ended-2-clause-err c = text-last_full c.characters.arcs.items c.characters.number c.args.text.now c.characters.character-index c.characters-test.false c.if-not-append_ended-2.ensures.full c.characters.invariant

pub returns-clause-ok : goal.returns-clause-ok
returns-clause-ok c = text-ends c.characters.arcs.items c.characters.number c.append_ended-2.new.arcs.items c.args.text.now c.characters.character-index c.characters-test.false c.if-is_none.ensures c.if-not-append_ended-2.ensures.ok c.characters.invariant
