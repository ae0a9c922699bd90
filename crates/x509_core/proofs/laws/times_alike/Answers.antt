use Rattle.x509_core.proofs.Seen.{time}
use Rattle.x509_core.proofs.laws.times_alike.Goals as goal

pub returns : goal.returns
returns c = time
