use Rattle.std.proofs.Common.{refl, ap, Ok, Err}
use Rattle.command_ways.specs.declared.trust.TrustFault.{TrustFault}
use Rattle.command_ways.proofs.trust.walked.Goals as goal

pub returns-in-Ok : goal.returns-in-Ok
returns-in-Ok g c = (Ok c.in-Ok.chain, c.in-Ok.ensures, refl)

pub returns-in-Err : goal.returns-in-Err
returns-in-Err g c = (Err c.in-Err.e, c.in-Err.ensures, ap (λ (f : TrustFault). Err f) c.walk_fault.ensures)
