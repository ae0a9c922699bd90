use Rattle.x509_core.proofs.Seen.{serial}
use Rattle.x509_core.proofs.laws.serial_numbers_alike.Goals as goal

pub returns : goal.returns
returns c = serial
