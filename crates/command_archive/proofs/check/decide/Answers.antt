use Rattle.std.proofs.Common.{refl}
use Rattle.command_files.specs.Starting.{unstarted, stopped, begun}
use Rattle.command_files.proofs.Starts.{began, was_stopped}
use Rattle.command_archive.specs.Layout.{check_layout_of}
use Rattle.command_archive.proofs.CheckSaying.{checks_at}
use Rattle.command_archive.proofs.check.decide.Goals as goal

pub returns-in-Ok-Asked : goal.returns-in-Ok-Asked
returns-in-Ok-Asked g c =
    begun c.in-Ok-Asked.layout c.in-Ok-Asked.anchored
    (began _ _ _ _ c.in-Ok-Asked.field-0 c.in-Ok-Asked.layout c.in-Ok-Asked.anchored c.in-Ok-Asked.field-0-is
    (c.in-Ok-Asked.ensures (check_layout_of c.args.line.now.words.now) (record { ok = c.check_layout.ensures.ok; err = c.check_layout.ensures.err })))
    (checks_at c.in-Ok-Asked.anchored c.moment.result _ c.as_bytes.result.now c.default.result _ _ _ _ c.checked-said.result
    c.as_bytes.ensures c.default.ensures c.moment.ensures c.checked-said.ensures)

pub returns-in-Ok-Stopped : goal.returns-in-Ok-Stopped
returns-in-Ok-Stopped g c =
    stopped c.in-Ok-Stopped.said
    (was_stopped _ _ _ _ c.in-Ok-Stopped.field-0 c.in-Ok-Stopped.said c.in-Ok-Stopped.field-0-is
    (c.in-Ok-Stopped.ensures (check_layout_of c.args.line.now.words.now) (record { ok = c.check_layout.ensures.ok; err = c.check_layout.ensures.err })))
    refl refl

pub returns-in-Err : goal.returns-in-Err
returns-in-Err g c =
    unstarted c.in-Err.e
    (c.in-Err.ensures (check_layout_of c.args.line.now.words.now) (record { ok = c.check_layout.ensures.ok; err = c.check_layout.ensures.err })) refl refl
