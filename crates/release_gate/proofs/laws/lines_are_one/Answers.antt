use Rattle.release_gate.proofs.Lining.{lines_are_one}
use Rattle.release_gate.proofs.laws.lines_are_one.Goals as goal

pub returns : goal.returns
returns c = lines_are_one
