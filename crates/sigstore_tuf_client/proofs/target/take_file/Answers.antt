use Rattle.std.proofs.Common.{refl, sym}
use Rattle.sigstore_tuf_runs.specs.Target.{differs, unsaved, given}
use Rattle.sigstore_tuf_client.proofs.target.take_file.Goals as goal

pub returns-in-Ok-save_target : goal.returns-in-Ok-save_target
returns-in-Ok-save_target g c = given (sym c.in-Ok.ensures) c.in-Ok-save_target.ensures refl

pub returns-in-Err-save_target : goal.returns-in-Err-save_target
returns-in-Err-save_target g c = unsaved _ (sym c.in-Ok.ensures) c.in-Err-save_target.ensures refl

pub returns-in-Err : goal.returns-in-Err
returns-in-Err g c = differs _ (sym c.in-Err.ensures) refl refl
