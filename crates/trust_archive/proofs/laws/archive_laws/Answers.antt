use Rattle.trust_archive.proofs.Whole.{one_chain, one_spelling_read, written_is_read}
use Rattle.trust_archive.proofs.laws.archive_laws.Goals as goal

pub returns-clause-chain : goal.returns-clause-chain
returns-clause-chain c = one_chain

pub returns-clause-spelling : goal.returns-clause-spelling
returns-clause-spelling c = one_spelling_read

pub returns-clause-again : goal.returns-clause-again
returns-clause-again c = written_is_read
