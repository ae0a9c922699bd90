use Rattle.std.proofs.Common.{sym, subst}
use Rattle.std.proofs.lemmas.Result.{err_from_is_err_and}
use Rattle.der_grammar.proofs.Loops.{next_is, no_next}
use Rattle.certificate_claims.specs.Names.{said}
use Rattle.certificate_claims.proofs.NameFacts.{SaidOn, said_more, said_shorter, said_refused, said_all}
use Rattle.certificate_claims.proofs.names.first_in.Goals as goal

pub returns-in_err-name-clause-err : goal.returns-in_err-name-clause-err
returns-in_err-name-clause-err c =
    let p = err_from_is_err_and c.from_residual.result c.from_residual.ensures.1 in
    let n = next_is c.names.reader c.in-Some._tag.0 c.in-Some.ensures in
    rw (p.1, p.2) (said_refused c.in_err-name.field-0.0 (said c.names.found) _ n.0 c.names.reader c.args.contents.now n.1 c.in_err-name.ensures.err c.names.invariant)

pub names-smaller : goal.names-smaller
names-smaller c = said_shorter c.names.reader c.read_name.new.reader (said c.in_ok-name.name) c.in_ok-name.ensures.ok

pub names-preserved : goal.names-preserved
names-preserved c =
    let n = next_is c.names.reader c.in-Some._tag.0 c.in-Some.ensures in
    subst (λ found. SaidOn found c.read_name.new.reader c.args.contents.now) (sym c.earlier-found.ensures)
    (said_more (said c.names.found) (said c.in_ok-name.name) _ n.0 c.names.reader c.read_name.new.reader c.args.contents.now n.1 c.in_ok-name.ensures.ok c.names.invariant)

pub returns-clause-ok : goal.returns-clause-ok
returns-clause-ok c = said_all (said c.names.found) c.names.reader c.args.contents.now (no_next c.names.reader c.in_default.ensures) c.names.invariant
