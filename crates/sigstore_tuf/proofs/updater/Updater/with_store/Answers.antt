use Rattle.foundation.specs.Watched.{untold}
use Rattle.sigstore_tuf.proofs.updater.Updater.with_store.Goals as goal

pub returns-in-Err-clause-err : goal.returns-in-Err-clause-err
returns-in-Err-clause-err g c = (c.in-Err.ensures.attached (untold 0)).refused
