use Rattle.x509_views.proofs.Once.{is-there}
use Rattle.x509_views.proofs.laws.precertificate_is_there.Goals as goal

pub returns : goal.returns
returns c = is-there
