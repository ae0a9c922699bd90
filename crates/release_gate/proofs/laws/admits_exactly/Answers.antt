use Rattle.release_gate.proofs.Admitting.{admits_exactly}
use Rattle.release_gate.proofs.laws.admits_exactly.Goals as goal

pub returns : goal.returns
returns c = admits_exactly
