use Rattle.sigstore_certificate.proofs.CertifiedLaw.{certified_exactly}
use Rattle.sigstore_certificate.proofs.laws.certified_exactly.Goals as goal

pub returns : goal.returns
returns c = certified_exactly
