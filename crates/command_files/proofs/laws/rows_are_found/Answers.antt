use Rattle.command_files.proofs.RowFacts.{adds_signature, adds_text}
use Rattle.command_files.proofs.laws.rows_are_found.Goals as goal

pub returns-clause-signatures : goal.returns-clause-signatures
returns-clause-signatures c = adds_signature

pub returns-clause-texts : goal.returns-clause-texts
returns-clause-texts c = adds_text
