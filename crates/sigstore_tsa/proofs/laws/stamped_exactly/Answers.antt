use Rattle.sigstore_tsa.proofs.StampedLaw.{stamped_exactly, outside_exactly}
use Rattle.sigstore_tsa.proofs.laws.stamped_exactly.Goals as goal

pub returns : goal.returns
returns c = record { stamped = stamped_exactly; outside = outside_exactly }
