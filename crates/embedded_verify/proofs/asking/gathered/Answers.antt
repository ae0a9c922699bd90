use Rattle.std.proofs.Common.{Ok, refl}
use Rattle.command_files.proofs.Starts.{was_stopped}
use Rattle.embedded_verify.proofs.Reading.{unread, told_same}
use Rattle.embedded_verify.proofs.asking.gathered.Goals as goal

pub returns-in-Ok-Stopped-clause-unread : goal.returns-in-Ok-Stopped-clause-unread
returns-in-Ok-Stopped-clause-unread c =
    unread c.args.request.now _ _ (told_same _ _ _ _ _ _ _ _ c.inputs.ensures.root c.inputs.ensures.bundle c.inputs.ensures.policy c.inputs.ensures.provider) refl refl c.in-Ok-Stopped.said
    (was_stopped _ _ _ _ c.in-Ok-Stopped.field-0 c.in-Ok-Stopped.said c.in-Ok-Stopped.field-0-is (c.in-Ok-Stopped.ensures (Ok tt) (record { ok = refl; err = tt })))
