use Rattle.sigstore_judgement.proofs.OneLogLaw.{one_log_suffices}
use Rattle.sigstore_judgement.proofs.laws.one_log_suffices.Goals as goal

pub returns : goal.returns
returns c = one_log_suffices
