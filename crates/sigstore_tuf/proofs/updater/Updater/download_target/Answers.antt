use Rattle.sigstore_tuf_causes.proofs.SearchCarried.{downloads_carry}
use Rattle.sigstore_tuf.proofs.updater.Updater.download_target.Goals as goal

pub returns-clause-downloads : goal.returns-clause-downloads
returns-clause-downloads g c = rw c.root.ensures at c.download_held.ensures.downloads

pub returns-clause-carries : goal.returns-clause-carries
returns-clause-carries g c = downloads_carry _ _ _ _ _ _ _ _ _ _ _ c.download_held.ensures.downloads
