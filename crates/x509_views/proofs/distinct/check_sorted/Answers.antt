use Rattle.std.proofs.Common.{map, sym, ◌∙◌}
use Rattle.x509_views.proofs.Identifiers.{twice, apart, if_ok, if_err}
use Rattle.x509_views.proofs.distinct.check_sorted.Goals as goal

pub returns-then-has_repeated-clause-err : goal.returns-then-has_repeated-clause-err
returns-then-has_repeated-clause-err c other =
    twice c.args.list.now (map (λ oid. oid.now) c.in_ok-identifiers.identifiers.items) c.in_ok-identifiers.end c.in_ok-identifiers.ensures.ok (sym c.has_repeated.ensures ∙ c.if-has_repeated.true)

pub returns-clause-ok : goal.returns-clause-ok
returns-clause-ok c =
    let is = apart c.args.list.now (map (λ oid. oid.now) c.in_ok-identifiers.identifiers.items) c.in_ok-identifiers.end c.in_ok-identifiers.ensures.ok (sym c.has_repeated.ensures ∙ c.if-has_repeated.false) in
    if_ok _ c.in_ok-identifiers.end is

pub returns-clause-err : goal.returns-clause-err
returns-clause-err c =
    let is = apart c.args.list.now (map (λ oid. oid.now) c.in_ok-identifiers.identifiers.items) c.in_ok-identifiers.end c.in_ok-identifiers.ensures.ok (sym c.has_repeated.ensures ∙ c.if-has_repeated.false) in
    if_err _ c.in_ok-identifiers.end is
