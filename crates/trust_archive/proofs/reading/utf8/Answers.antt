use Rattle.trust_archive.proofs.Texts.{utf8_ok, utf8_not}
use Rattle.trust_archive.proofs.reading.utf8.Goals as goal

pub returns-in-Ok-clause-ok : goal.returns-in-Ok-clause-ok
returns-in-Ok-clause-ok c = utf8_ok _ _ _ _ _ c.in_ok-front.ensures.ok c.in-Ok.ensures.cases.0 c.in-Ok.ensures.cases.1

pub returns-in-Err-clause-err : goal.returns-in-Err-clause-err
returns-in-Err-clause-err c = utf8_not _ _ _ _ c.in_ok-front.ensures.ok c.in-Err.ensures.cases.0
