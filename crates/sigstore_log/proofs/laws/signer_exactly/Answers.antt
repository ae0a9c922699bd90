use Rattle.sigstore_log.proofs.Signer.{signer_exactly}
use Rattle.sigstore_log.proofs.laws.signer_exactly.Goals as goal

pub returns : goal.returns
returns c = signer_exactly
