use Rattle.std.proofs.Common.{length}
use Rattle.certificate_claims.specs.Names.{said}
use Rattle.certificate_claims.proofs.NameFacts.{SaidOn}
use Rattle.certificate_claims.proofs.names.first_in.Given as goal

abbrev pub invariant-names : goal.invariant-names
invariant-names l = SaidOn (said l.found) l.reader l.contents

abbrev pub decreases-names : goal.decreases-names
decreases-names l = length l.reader
