use Rattle.sigstore_tuf_parts.proofs.RoleCauses.{role_cause}
use Rattle.sigstore_tuf_parts.proofs.laws.roles_have_causes.Goals as goal

pub returns : goal.returns
returns g c = λ crypto root name doc e. role_cause crypto root name doc e
