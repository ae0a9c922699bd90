use Rattle.command_audit.specs.Layout.{layout_in, audit_layout_of}
use Rattle.command_audit.proofs.Saying.{read_ok, read_err, unread_err}
use Rattle.command_audit.proofs.layout.audit_layout.Goals as goal

pub returns-in-Ok-clause-ok : goal.returns-in-Ok-clause-ok
unfolding audit_layout_of
returns-in-Ok-clause-ok c = read_ok c.in-Ok.found _ layout_in c.layout_in-layout.result c.in-Ok.ensures.ok c.layout_in-layout.ensures.ok

pub returns-in-Ok-clause-err : goal.returns-in-Ok-clause-err
unfolding audit_layout_of
returns-in-Ok-clause-err c = read_err c.in-Ok.found _ layout_in c.layout_in-layout.result c.in-Ok.ensures.ok c.layout_in-layout.ensures.err

pub returns-in-Err-clause-err : goal.returns-in-Err-clause-err
unfolding audit_layout_of
returns-in-Err-clause-err c = λ n. unread_err _ layout_in c.in-Err.e (c.in-Err.ensures.err n)
