use Rattle.x509_views.proofs.Made.{is-its-parts}
use Rattle.x509_views.proofs.laws.certificate_is_its_parts.Goals as goal

pub returns : goal.returns
returns c = is-its-parts
