use Rattle.verification_details.proofs.Subjects.{subjects_are_judged}
use Rattle.verification_details.proofs.laws.subjects_are_judged.Goals as goal

pub returns : goal.returns
returns c = subjects_are_judged
