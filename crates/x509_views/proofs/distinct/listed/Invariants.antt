use Rattle.std.proofs.Common.{length, map}
use Rattle.x509_views.proofs.Identifiers.{ListsOn}
use Rattle.x509_views.proofs.distinct.listed.Given as goal

abbrev pub invariant-extensions : goal.invariant-extensions
invariant-extensions l = ListsOn (map (λ oid. oid.now) l.identifiers.items) l.rest l.fn.list

abbrev pub decreases-extensions : goal.decreases-extensions
decreases-extensions l = length l.rest
