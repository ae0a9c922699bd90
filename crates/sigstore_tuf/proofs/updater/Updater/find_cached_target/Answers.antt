use Rattle.sigstore_tuf_causes.proofs.SearchCarried.{recalls_carry}
use Rattle.sigstore_tuf.proofs.updater.Updater.find_cached_target.Goals as goal

pub returns-clause-carries : goal.returns-clause-carries
returns-clause-carries g c = recalls_carry _ _ _ _ _ _ _ _ _ c.recall_held.ensures.recalls
