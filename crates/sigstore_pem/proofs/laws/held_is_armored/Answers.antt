use Rattle.sigstore_pem.proofs.BlockFacts.{held_armored}
use Rattle.sigstore_pem.proofs.laws.held_is_armored.Goals as goal

pub returns : goal.returns
returns c = held_armored
