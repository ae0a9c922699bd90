use Rattle.sigstore_pem.proofs.Readings.{written_read}
use Rattle.sigstore_pem.proofs.laws.written_is_read.Goals as goal

pub returns : goal.returns
returns c = written_read
