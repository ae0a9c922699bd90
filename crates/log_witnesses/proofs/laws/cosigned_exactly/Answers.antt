use Rattle.log_witnesses.proofs.CosignedLaw.{cosigned_exactly}
use Rattle.log_witnesses.proofs.laws.cosigned_exactly.Goals as goal

pub returns : goal.returns
returns c = cosigned_exactly
