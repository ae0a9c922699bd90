use Rattle.sigstore_entries.proofs.Parted.{kept}
use Rattle.sigstore_entries.proofs.laws.envelopes_are_kept.Goals as goal

pub returns : goal.returns
returns c = kept
