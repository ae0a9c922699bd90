use Rattle.sigstore_tuf.proofs.updater.info_held.Goals as goal

pub returns-in-Some-clause-informed : goal.returns-in-Some-clause-informed
returns-in-Some-clause-informed g c = rw c.in-Some.is c.target_info.ensures.informed

pub returns-in-None-clause-informed : goal.returns-in-None-clause-informed
returns-in-None-clause-informed g c = rw c.in-None.is c.target_info-in-None.ensures.informed
