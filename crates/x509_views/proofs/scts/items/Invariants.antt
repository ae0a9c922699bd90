use Rattle.std.proofs.Common.{length}
use Rattle.x509_views.proofs.SctLists.{ReadsOn}
use Rattle.x509_views.proofs.scts.items.Given as goal

abbrev pub invariant-items : goal.invariant-items
invariant-items l = ReadsOn l.scts.items l.rest l.fn.list

abbrev pub decreases-items : goal.decreases-items
decreases-items l = length l.rest
