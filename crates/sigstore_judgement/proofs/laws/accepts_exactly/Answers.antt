use Rattle.sigstore_judgement.proofs.Accepts.{accepts_exactly}
use Rattle.sigstore_judgement.proofs.laws.accepts_exactly.Goals as goal

pub returns : goal.returns
returns c = accepts_exactly
