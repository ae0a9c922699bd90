use Rattle.verification_details.proofs.Sources.{sources_are_told}
use Rattle.verification_details.proofs.laws.sources_are_told.Goals as goal

pub returns : goal.returns
returns c = sources_are_told
