use Rattle.sigstore_certificate.proofs.OneSctLaw.{one_alone}
use Rattle.sigstore_certificate.proofs.laws.one_sct_alone.Goals as goal

pub returns : goal.returns
returns c = one_alone
