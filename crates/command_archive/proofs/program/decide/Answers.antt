use Rattle.std.proofs.Common.{refl}
use Rattle.command_files.specs.Starting.{unstarted, stopped, begun}
use Rattle.command_files.proofs.Starts.{began, was_stopped}
use Rattle.command_archive.specs.Layout.{archive_layout_of}
use Rattle.command_archive.proofs.Saying.{walked_at}
use Rattle.command_archive.proofs.program.decide.Goals as goal

pub returns-in-Ok-Asked : goal.returns-in-Ok-Asked
returns-in-Ok-Asked g c =
    begun c.in-Ok-Asked.places c.in-Ok-Asked.anchored
    (began _ _ _ _ c.in-Ok-Asked.field-0 c.in-Ok-Asked.places c.in-Ok-Asked.anchored c.in-Ok-Asked.field-0-is
    (c.in-Ok-Asked.ensures (archive_layout_of c.args.line.now.words.now) (record { ok = c.archive_layout.ensures.ok; err = c.archive_layout.ensures.err })))
    (walked_at c.in-Ok-Asked.anchored c.moment.result _ c.as_bytes.result.now c.default.result _ _ c.walked-said.result
    c.as_bytes.ensures c.default.ensures c.moment.ensures c.walked-said.ensures)

pub returns-in-Ok-Stopped : goal.returns-in-Ok-Stopped
returns-in-Ok-Stopped g c =
    stopped c.in-Ok-Stopped.said
    (was_stopped _ _ _ _ c.in-Ok-Stopped.field-0 c.in-Ok-Stopped.said c.in-Ok-Stopped.field-0-is
    (c.in-Ok-Stopped.ensures (archive_layout_of c.args.line.now.words.now) (record { ok = c.archive_layout.ensures.ok; err = c.archive_layout.ensures.err })))
    refl refl

pub returns-in-Err : goal.returns-in-Err
returns-in-Err g c =
    unstarted c.in-Err.e
    (c.in-Err.ensures (archive_layout_of c.args.line.now.words.now) (record { ok = c.archive_layout.ensures.ok; err = c.archive_layout.ensures.err })) refl refl
