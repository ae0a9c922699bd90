use Rattle.x509_core.proofs.Seen.{algorithm}
use Rattle.x509_core.proofs.laws.algorithms_alike.Goals as goal

pub returns : goal.returns
returns c = algorithm
