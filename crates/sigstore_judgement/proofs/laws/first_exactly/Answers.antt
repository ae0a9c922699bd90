use Rattle.sigstore_judgement.proofs.FirstLaw.{first_exactly}
use Rattle.sigstore_judgement.proofs.laws.first_exactly.Goals as goal

pub returns : goal.returns
returns c = first_exactly
