use Rattle.sigstore_entries.proofs.ReadAgain.{entries_again}
use Rattle.sigstore_entries.proofs.laws.entries_are_read_again.Goals as goal

pub returns : goal.returns
returns c = entries_again
