use Rattle.std.proofs.Common.{Ok, refl, ap}
use Rattle.sigstore_tuf.specs.Updater.{refused, uncopied, given}
use Rattle.sigstore_tuf.proofs.Wanting.{wanting_carries}
use Rattle.sigstore_tuf.proofs.updater.Updater.get_target.Goals as goal

pub returns-in-Ok-duplicate-clause-gives : goal.returns-in-Ok-duplicate-clause-gives
returns-in-Ok-duplicate-clause-gives g c = given _ c.in-Ok.ensures.got c.replace.ensures.after (ap Ok c.in-Ok-duplicate.ensures)

pub returns-in-Err-duplicate-clause-gives : goal.returns-in-Err-duplicate-clause-gives
returns-in-Err-duplicate-clause-gives g c = uncopied _ c.in-Ok.ensures.got refl

pub returns-in-Err-clause-gives : goal.returns-in-Err-clause-gives
returns-in-Err-clause-gives g c = refused _ c.in-Err.ensures.got refl

pub returns-in-Ok-duplicate-clause-carries : goal.returns-in-Ok-duplicate-clause-carries
returns-in-Ok-duplicate-clause-carries g c = c.in-Ok.ensures.got.carries

pub returns-in-Err-duplicate-clause-carries : goal.returns-in-Err-duplicate-clause-carries
returns-in-Err-duplicate-clause-carries g c = wanting_carries _ _ _ _ c.in-Ok.ensures.got.carries

pub returns-in-Err-clause-carries : goal.returns-in-Err-clause-carries
returns-in-Err-clause-carries g c = c.in-Err.ensures.got.carries
