use Rattle.sigstore_entries.proofs.Parted.{parted}
use Rattle.sigstore_entries.proofs.laws.checkpoints_are_parted.Goals as goal

pub returns : goal.returns
returns c = parted
