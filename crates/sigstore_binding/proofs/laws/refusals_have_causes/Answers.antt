use Rattle.sigstore_binding.proofs.CauseLaw.{refusals_have_causes}
use Rattle.sigstore_binding.proofs.laws.refusals_have_causes.Goals as goal

pub returns : goal.returns
returns c = refusals_have_causes
