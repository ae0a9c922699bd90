use Rattle.sigstore_pem.proofs.Strict.{read_strict}
use Rattle.sigstore_pem.proofs.laws.read_is_strict.Goals as goal

pub returns : goal.returns
returns c = read_strict
