use Rattle.sigstore_judgement.proofs.LogRefusals.{log_refusals}
use Rattle.sigstore_judgement.proofs.laws.log_refusals_have_causes.Goals as goal

pub returns : goal.returns
returns c = log_refusals
