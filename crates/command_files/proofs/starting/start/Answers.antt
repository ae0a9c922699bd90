use Rattle.command_files.proofs.Starts.{lacking_said}
use Rattle.command_files.proofs.starting.start.Goals as goal

pub returns-in-Ok-stopped : goal.returns-in-Ok-stopped
returns-in-Ok-stopped g c =
    λ words r. lacking_said words c.args.words _ _ _ c.in-Ok.layout c.in-Err.stop c.in-Ok-stopped.said c.in-Ok.is r c.in-Err.ensures c.in-Ok-stopped.ensures
