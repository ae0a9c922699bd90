use Rattle.std.proofs.Common.{refl, ap, Err}
use Rattle.sigstore_tuf_runs.specs.Adopt.{fetch_asked}
use Rattle.sigstore_tuf_client.proofs.adopt.fetch_named.Goals as goal

pub returns-in-Ok : goal.returns-in-Ok
returns-in-Ok g c = fetch_asked _ c.in-Ok.ensures refl

pub returns-in-Err : goal.returns-in-Err
returns-in-Err g c = fetch_asked _ c.in-Err.ensures (ap Err c.transport.ensures)
