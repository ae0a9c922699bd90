use Rattle.std.proofs.Common.{◌≡◌, length}
use Rattle.x509_views.specs.Extensions.{found_of}
use Rattle.x509_views.proofs.extension.find.Given as goal

abbrev pub invariant-extensions : goal.invariant-extensions
invariant-extensions l = found_of l.oid l.rest ≡ found_of l.oid l.fn.list

abbrev pub decreases-extensions : goal.decreases-extensions
decreases-extensions l = length l.rest
