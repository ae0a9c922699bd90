use Rattle.std.proofs.Common.{refl}
use Rattle.sigstore_tuf_runs.specs.Target.{unnamed, unfetched, fetched, absent}
use Rattle.sigstore_tuf_runs.proofs.Steps.{fetched_as}
use Rattle.sigstore_tuf_client.proofs.target.download.Goals as goal

pub returns-in-Ok-Some : goal.returns-in-Ok-Some
returns-in-Ok-Some g c = fetched _ _ c.in-Ok.ensures.ok (fetched_as c.as_str.ensures (rw c.in-Ok-Some.field-0-is at c.in-Ok-Some.ensures)) c.take_file.ensures

pub returns-in-Ok-None : goal.returns-in-Ok-None
returns-in-Ok-None g c = absent _ c.in-Ok.ensures.ok (fetched_as c.as_str.ensures (rw c.in-Ok-None.field-0-is at c.in-Ok-None.ensures)) refl refl

pub returns-in-Ok : goal.returns-in-Ok
returns-in-Ok g c = unfetched _ _ c.in-Ok.ensures.ok (fetched_as c.as_str.ensures c.in-Err-fetch_file.ensures) refl refl

pub returns : goal.returns
returns g c = unnamed _ c.in-Err.ensures.err refl refl refl
