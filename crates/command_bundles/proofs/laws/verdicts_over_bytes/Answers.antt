use Rattle.command_bundles.proofs.BytesLaw.{over_bytes}
use Rattle.command_bundles.proofs.laws.verdicts_over_bytes.Goals as goal

pub returns : goal.returns
returns c = over_bytes
