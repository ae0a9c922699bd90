use Rattle.std.proofs.Common.{refl}
use Rattle.sigstore_tuf_runs.specs.Target.{unrecalled, recalled, downloaded}
use Rattle.sigstore_tuf_client.proofs.target.obtain.Goals as goal

pub returns-in-Ok-Some : goal.returns-in-Ok-Some
returns-in-Ok-Some g c = recalled _ (rw c.in-Ok-Some.field-0-is at c.in-Ok-Some.ensures) refl refl

pub returns-in-Ok-None : goal.returns-in-Ok-None
returns-in-Ok-None g c = downloaded _ (rw c.in-Ok-None.field-0-is at c.in-Ok-None.ensures) c.download.ensures

pub returns-in-Err : goal.returns-in-Err
returns-in-Err g c = unrecalled _ c.in-Err.ensures refl refl
