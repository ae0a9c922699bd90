use Rattle.sigstore_tuf_causes.proofs.Succeeding.{store_carries_floor}
use Rattle.sigstore_tuf_causes.proofs.laws.store_carries_the_floor.Goals as goal

pub returns : goal.returns
returns c = store_carries_floor
