use Rattle.sigstore_types.proofs.ReadAgain.{bundle_again}
use Rattle.sigstore_types.proofs.laws.bundles_are_read_again.Goals as goal

pub returns : goal.returns
returns c = bundle_again
