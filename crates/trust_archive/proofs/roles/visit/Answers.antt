use Rattle.trust_archive.proofs.Visiting.{none_next, next_made}
use Rattle.trust_archive.proofs.roles.visit.Goals as goal

pub returns-clause-err : goal.returns-clause-err
returns-clause-err g c = λ other. none_next _ _ _ _ _ _ c.args.search.now c.next_visit.new.search c.next_visit.result c.in-None.is c.next_visit.ensures.next

pub returns-in-Ok-clause-ok : goal.returns-in-Ok-clause-ok
returns-in-Ok-clause-ok g c =
    next_made _ _ _ _ _ _ c.args.search.now c.next_visit.new.search c.next_visit.result _ _ c.in-Some.is c.next_visit.ensures.next c.next_visit.ensures.same.0 c.next_visit.ensures.same.1 c.in-Ok.ensures.ok

pub returns-in-Some-clause-err : goal.returns-in-Some-clause-err
returns-in-Some-clause-err g c = λ other.
    next_made _ _ _ _ _ _ c.args.search.now c.next_visit.new.search c.next_visit.result _ _ c.in-Some.is c.next_visit.ensures.next c.next_visit.ensures.same.0 c.next_visit.ensures.same.1 (c.in-Err.ensures.err other)
