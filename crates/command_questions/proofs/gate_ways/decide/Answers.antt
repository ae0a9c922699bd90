use Rattle.std.proofs.Common.{refl}
use Rattle.command_files.specs.Starting.{unstarted, stopped, begun}
use Rattle.command_files.proofs.Starts.{began, was_stopped}
use Rattle.command_ways.specs.FolderLayout.{asked_folder_layout_of}
use Rattle.command_questions.proofs.GateWaySufficing.{asks_at}
use Rattle.command_questions.proofs.gate_ways.decide.Goals as goal

pub returns-in-Ok : goal.returns-in-Ok
returns-in-Ok g c =
    begun c.in-Ok-Asked.layout c.in-Ok-Asked.governed
    (began _ _ _ _ c.in-Ok-Asked.field-0 c.in-Ok-Asked.layout c.in-Ok-Asked.governed c.in-Ok-Asked.field-0-is
    (c.in-Ok-Asked.ensures (asked_folder_layout_of c.args.line.now.words.now) (record { ok = c.asked_gate_way_layout.ensures.ok; err = c.asked_gate_way_layout.ensures.err })))
    (record {
      tables = c.in-Ok.noted.tables;
      asks = asks_at c.in-Ok-Asked.layout.by c.in-Ok-Asked.governed c.moment-now.result _ c.in-Ok.noted.tables _ _ c.moment-now.ensures c.in-Ok.ensures;
      rows = c.questions_text.ensures.rows;
      accepted = c.questions_text.ensures.status;
    })

pub returns-in-Ok-Asked : goal.returns-in-Ok-Asked
returns-in-Ok-Asked g c =
    begun c.in-Ok-Asked.layout c.in-Ok-Asked.governed
    (began _ _ _ _ c.in-Ok-Asked.field-0 c.in-Ok-Asked.layout c.in-Ok-Asked.governed c.in-Ok-Asked.field-0-is
    (c.in-Ok-Asked.ensures (asked_folder_layout_of c.args.line.now.words.now) (record { ok = c.asked_gate_way_layout.ensures.ok; err = c.asked_gate_way_layout.ensures.err })))
    tt

pub returns-in-Ok-Stopped : goal.returns-in-Ok-Stopped
returns-in-Ok-Stopped g c =
    stopped c.in-Ok-Stopped.said
    (was_stopped _ _ _ _ c.in-Ok-Stopped.field-0 c.in-Ok-Stopped.said c.in-Ok-Stopped.field-0-is
    (c.in-Ok-Stopped.ensures (asked_folder_layout_of c.args.line.now.words.now) (record { ok = c.asked_gate_way_layout.ensures.ok; err = c.asked_gate_way_layout.ensures.err })))
    refl refl

pub returns : goal.returns
returns g c =
    unstarted c.in-Err.e
    (c.in-Err.ensures (asked_folder_layout_of c.args.line.now.words.now) (record { ok = c.asked_gate_way_layout.ensures.ok; err = c.asked_gate_way_layout.ensures.err })) refl refl
