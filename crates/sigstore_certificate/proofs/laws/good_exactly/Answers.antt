use Rattle.sigstore_certificate.proofs.SctLaw.{good_exactly}
use Rattle.sigstore_certificate.proofs.laws.good_exactly.Goals as goal

pub returns : goal.returns
returns c = good_exactly
