use Rattle.sigstore_binding.proofs.DescribesLaw.{describes_exactly}
use Rattle.sigstore_binding.proofs.laws.describes_exactly.Goals as goal

pub returns : goal.returns
returns c = describes_exactly
