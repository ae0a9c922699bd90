use Rattle.sigstore_verify.proofs.OnePlaceLaw.{one_place_one_content}
use Rattle.sigstore_verify.proofs.laws.one_place_one_content.Goals as goal

pub returns : goal.returns
returns c = one_place_one_content
