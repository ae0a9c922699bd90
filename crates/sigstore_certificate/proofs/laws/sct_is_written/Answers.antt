use Rattle.sigstore_certificate.proofs.WrittenLaw.{written_unless_long}
use Rattle.sigstore_certificate.proofs.laws.sct_is_written.Goals as goal

pub returns : goal.returns
returns c = written_unless_long c.precertificate_is_there.ensures
