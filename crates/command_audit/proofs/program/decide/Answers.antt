use Rattle.std.proofs.Common.{refl}
use Rattle.command_files.specs.Starting.{unstarted, stopped, begun}
use Rattle.command_files.proofs.Starts.{began, was_stopped}
use Rattle.command_audit.specs.Layout.{audit_layout_of}
use Rattle.command_audit.proofs.program.decide.Goals as goal

pub returns-in-Ok-Asked : goal.returns-in-Ok-Asked
returns-in-Ok-Asked g c =
    begun c.in-Ok-Asked.layout c.in-Ok-Asked.tables
    (began _ _ _ _ c.in-Ok-Asked.field-0 c.in-Ok-Asked.layout c.in-Ok-Asked.tables c.in-Ok-Asked.field-0-is
    (c.in-Ok-Asked.ensures (audit_layout_of c.args.words.now) (record { ok = c.audit_layout.ensures.ok; err = c.audit_layout.ensures.err })))
    c.audited-said.ensures

pub returns-in-Ok-Stopped : goal.returns-in-Ok-Stopped
returns-in-Ok-Stopped g c =
    stopped c.in-Ok-Stopped.said
    (was_stopped _ _ _ _ c.in-Ok-Stopped.field-0 c.in-Ok-Stopped.said c.in-Ok-Stopped.field-0-is
    (c.in-Ok-Stopped.ensures (audit_layout_of c.args.words.now) (record { ok = c.audit_layout.ensures.ok; err = c.audit_layout.ensures.err })))
    refl refl

pub returns-in-Err : goal.returns-in-Err
returns-in-Err g c =
    unstarted c.in-Err.e (c.in-Err.ensures (audit_layout_of c.args.words.now) (record { ok = c.audit_layout.ensures.ok; err = c.audit_layout.ensures.err })) refl refl
