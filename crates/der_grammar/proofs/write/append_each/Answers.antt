use Rattle.std.proofs.lemmas.Result.{err_from_is_err_and}
use Rattle.der_grammar.proofs.Loops.{writes_one, writing_refused, ends_writing}
use Rattle.der_grammar.proofs.write.append_each.Goals as goal

pub returns-in_err-encode_into-clause-err : goal.returns-in_err-encode_into-clause-err
returns-in_err-encode_into-clause-err g c =
    let p = err_from_is_err_and c.from_residual.result c.from_residual.ensures.1 in
    rw (p.1, p.2) (writing_refused c.in_err-encode_into.field-0.0 g.T.Der.grammar c.args.out.now c.items.out c.args.items.now c.items.item-index c.item-item.result c.items-test.true c.item-item.is c.in_err-encode_into.ensures.err c.items.invariant)

pub items-preserved : goal.items-preserved
items-preserved g c = writes_one g.T.Der.grammar c.args.out.now c.items.out c.encode_into.new.out c.args.items.now c.items.item-index c.item-item.result c.items-test.true c.item-item.is c.in_ok-encode_into.ensures.ok c.items.invariant

pub returns-clause-ok : goal.returns-clause-ok
returns-clause-ok g c = ends_writing g.T.Der.grammar c.args.out.now c.items.out c.args.items.now c.items.item-index c.items-test.false c.items.invariant
