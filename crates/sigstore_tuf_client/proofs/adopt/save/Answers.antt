use Rattle.std.proofs.Common.{refl}
use Rattle.sigstore_tuf_runs.specs.Adopt.{save_asked}
use Rattle.sigstore_tuf_client.proofs.adopt.save.Goals as goal

pub returns-in-Ok : goal.returns-in-Ok
returns-in-Ok g c = save_asked _ c.in-Ok.ensures refl

pub returns-in-Err-Failed : goal.returns-in-Err-Failed
returns-in-Err-Failed g c = save_asked _ (rw c.in-Err-Failed.field-0-is at c.in-Err-Failed.ensures) refl

pub returns-in-Err-BadName : goal.returns-in-Err-BadName
returns-in-Err-BadName g c = save_asked _ (rw c.in-Err-BadName.field-0-is at c.in-Err-BadName.ensures) refl

pub returns-in-Err-NoMemory : goal.returns-in-Err-NoMemory
returns-in-Err-NoMemory g c = save_asked _ (rw c.in-Err-NoMemory.field-0-is at c.in-Err-NoMemory.ensures) refl
