use Rattle.std.proofs.Common.{refl}
use Rattle.command_ways.specs.Trust.{by_archive}
use Rattle.command_ways.proofs.trust.establish.Goals as goal

pub returns-in-Archive : goal.returns-in-Archive
returns-in-Archive g c = by_archive c.in-Archive.is refl c.archived.ensures
