use Rattle.sigstore_tuf_parts.proofs.MeetsLaw.{meets_exactly}
use Rattle.sigstore_tuf_parts.proofs.laws.meets_exactly.Goals as goal

pub returns : goal.returns
returns g c = λ crypto keys role name doc. meets_exactly crypto keys role name doc
