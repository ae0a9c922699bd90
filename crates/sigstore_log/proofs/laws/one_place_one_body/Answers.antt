use Rattle.sigstore_log.proofs.OnePlaceLaw.{one_place_one_body}
use Rattle.sigstore_log.proofs.laws.one_place_one_body.Goals as goal

pub returns : goal.returns
returns c = one_place_one_body
