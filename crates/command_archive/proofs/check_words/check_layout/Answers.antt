use Rattle.command_archive.specs.Layout.{check_in, check_layout_of}
use Rattle.command_archive.proofs.NamedValues.{read_ok, read_err, unread_err}
use Rattle.command_archive.proofs.check_words.check_layout.Goals as goal

pub returns-in-Ok-clause-ok : goal.returns-in-Ok-clause-ok
unfolding check_layout_of
returns-in-Ok-clause-ok c = read_ok _ check_in c.in-Ok.found c.check_in-layout.result c.in-Ok.ensures.ok c.check_in-layout.ensures.ok

pub returns-in-Ok-clause-err : goal.returns-in-Ok-clause-err
unfolding check_layout_of
returns-in-Ok-clause-err c = read_err _ check_in c.in-Ok.found c.check_in-layout.result c.in-Ok.ensures.ok c.check_in-layout.ensures.err

pub returns-in-Err-clause-err : goal.returns-in-Err-clause-err
unfolding check_layout_of
returns-in-Err-clause-err c = λ n. unread_err _ check_in c.in-Err.e (c.in-Err.ensures.err n)
