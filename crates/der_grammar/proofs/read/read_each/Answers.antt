use Rattle.std.proofs.lemmas.Result.{err_from_is_err_and}
use Rattle.der_grammar.specs.ManyLaws.{read-shrinks}
use Rattle.der_grammar.proofs.Loops.{reads_one, reading_refused, ends_reading, next_is, no_next}
use Rattle.der_grammar.proofs.read.read_each.Goals as goal

pub returns-in_err-item-clause-err : goal.returns-in_err-item-clause-err
returns-in_err-item-clause-err g c =
    let p = err_from_is_err_and c.from_residual.result c.from_residual.ensures.1 in
    let n = next_is c.values.reader c.in-Some._tag.0 c.in-Some.ensures in
    rw (p.1, p.2) (reading_refused c.in_err-item.field-0.0 g.T.Der.grammar c.values.items.items _ n.0 c.values.reader c.args.reader.now n.1 c.in_err-item.ensures.err c.values.invariant)

pub values-smaller : goal.values-smaller
values-smaller g c = read-shrinks g.T.Der.grammar c.values.reader c.in_ok-item.item c.read_value.new.reader c.in_ok-item.ensures.ok

pub values-preserved : goal.values-preserved
values-preserved g c =
    let n = next_is c.values.reader c.in-Some._tag.0 c.in-Some.ensures in
    rw c.in_ok-push.ensures.items (reads_one g.T.Der.grammar c.values.items.items _ n.0 c.values.reader c.read_value.new.reader c.args.reader.now c.in_ok-item.item n.1 c.in_ok-item.ensures.ok c.values.invariant)

pub returns-clause-ok : goal.returns-clause-ok
returns-clause-ok g c = ends_reading g.T.Der.grammar c.values.items.items c.values.reader c.args.reader.now (no_next c.values.reader c.in_default.ensures) c.values.invariant
