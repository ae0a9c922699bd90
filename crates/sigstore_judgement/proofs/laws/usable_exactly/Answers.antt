use Rattle.sigstore_judgement.proofs.Usable.{usable_exactly}
use Rattle.sigstore_judgement.proofs.laws.usable_exactly.Goals as goal

pub returns : goal.returns
returns c = usable_exactly
