use Rattle.x509_views.proofs.Made.{key-is-its-parts}
use Rattle.x509_views.proofs.laws.key_is_its_parts.Goals as goal

pub returns : goal.returns
returns c = key-is-its-parts
