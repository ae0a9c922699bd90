use Rattle.sigstore_tuf.proofs.updater.download_held.Goals as goal

pub returns-in-Some-clause-downloads : goal.returns-in-Some-clause-downloads
returns-in-Some-clause-downloads g c = rw c.in-Some.is c.download.ensures

pub returns-in-None-clause-downloads : goal.returns-in-None-clause-downloads
returns-in-None-clause-downloads g c = rw c.in-None.is c.download-in-None.ensures
