use Rattle.x509_core.proofs.Seen.{name}
use Rattle.x509_core.proofs.laws.names_alike.Goals as goal

pub returns : goal.returns
returns c = name
