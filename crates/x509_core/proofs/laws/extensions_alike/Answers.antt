use Rattle.x509_core.proofs.Seen.{extension}
use Rattle.x509_core.proofs.laws.extensions_alike.Goals as goal

pub returns : goal.returns
returns c = extension
