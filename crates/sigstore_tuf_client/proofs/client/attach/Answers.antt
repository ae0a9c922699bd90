use Rattle.sigstore_tuf_runs.specs.Run.{roots_unrecalled, roots_recalled}
use Rattle.std.proofs.Common.{refl}
use Rattle.sigstore_tuf_client.proofs.client.attach.Goals as goal

pub returns-in-Ok : goal.returns-in-Ok
returns-in-Ok g c = λ repo. roots_recalled _ (c.in-Ok.ensures repo) (c.write_root.ensures repo)

pub returns-in-Err : goal.returns-in-Err
returns-in-Err g c = λ repo. roots_unrecalled _ (c.in-Err.ensures repo) refl
