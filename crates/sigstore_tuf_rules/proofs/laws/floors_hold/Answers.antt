use Rattle.sigstore_tuf_rules.proofs.Floors.{floors_hold}
use Rattle.sigstore_tuf_rules.proofs.laws.floors_hold.Goals as goal

pub returns : goal.returns
returns c = floors_hold
