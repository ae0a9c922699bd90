use Rattle.sigstore_certificate.proofs.CauseLaw.{refusals}
use Rattle.sigstore_certificate.proofs.laws.refusals_have_causes.Goals as goal

pub returns : goal.returns
returns c = refusals
