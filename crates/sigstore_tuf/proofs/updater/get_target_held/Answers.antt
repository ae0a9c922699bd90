use Rattle.sigstore_tuf.proofs.updater.get_target_held.Goals as goal

pub returns-in-Some-clause-got : goal.returns-in-Some-clause-got
returns-in-Some-clause-got g c = rw c.in-Some.is c.get_target_parts.ensures.got

pub returns-in-None-clause-got : goal.returns-in-None-clause-got
returns-in-None-clause-got g c = rw c.in-None.is c.get_target_parts-in-None.ensures.got
