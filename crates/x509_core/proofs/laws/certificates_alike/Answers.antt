use Rattle.x509_core.proofs.Alike.{alike}
use Rattle.x509_core.proofs.laws.certificates_alike.Goals as goal

pub returns : goal.returns
returns c = alike
