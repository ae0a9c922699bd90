use Rattle.sigstore_log.proofs.LoggedLaw.{logged_exactly}
use Rattle.sigstore_log.proofs.laws.logged_exactly.Goals as goal

pub returns : goal.returns
returns c = logged_exactly
