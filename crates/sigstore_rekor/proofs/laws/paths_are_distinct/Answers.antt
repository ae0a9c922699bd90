use Rattle.sigstore_rekor.proofs.PathFacts.{distinct}
use Rattle.sigstore_rekor.proofs.laws.paths_are_distinct.Goals as goal

pub returns : goal.returns
returns c = distinct
