use Rattle.path_core.proofs.FirstPath.{path_exactly, refusal_exactly}
use Rattle.path_core.proofs.laws.path_exactly.Goals as goal

pub returns-clause-found : goal.returns-clause-found
returns-clause-found c = path_exactly

pub returns-clause-refused : goal.returns-clause-refused
returns-clause-refused c = refusal_exactly
