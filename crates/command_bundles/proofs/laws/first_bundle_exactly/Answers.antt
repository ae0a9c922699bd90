use Rattle.command_bundles.proofs.FirstLaw.{first_exactly}
use Rattle.command_bundles.proofs.laws.first_bundle_exactly.Goals as goal

pub returns : goal.returns
returns c = first_exactly
