use Rattle.sigstore_verify.proofs.ToldLaw.{stand_for_bytes}
use Rattle.sigstore_verify.proofs.laws.digests_stand_for_bytes.Goals as goal

pub returns : goal.returns
returns c = stand_for_bytes
