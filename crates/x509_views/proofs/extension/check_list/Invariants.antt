use Rattle.std.proofs.Common.{◌≡◌, length}
use Rattle.x509_views.specs.Extensions.{distinct_of}
use Rattle.x509_views.proofs.extension.check_list.Given as goal

abbrev pub invariant-extensions : goal.invariant-extensions
invariant-extensions l = distinct_of l.rest ≡ distinct_of l.fn.list

abbrev pub decreases-extensions : goal.decreases-extensions
decreases-extensions l = length l.rest
