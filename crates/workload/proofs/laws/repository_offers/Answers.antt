use Rattle.workload.proofs.Offered.{offered}
use Rattle.workload.proofs.laws.repository_offers.Goals as goal

pub returns : goal.returns
returns c = offered
