use Rattle.std.proofs.Common.{◌∙◌}
use Rattle.sigstore_tuf_runs.proofs.Steps.{fetched_as}
use Rattle.sigstore_tuf_client.proofs.adopt.fetch_pinned.Goals as goal

pub returns-in-Ok : goal.returns-in-Ok
returns-in-Ok g c = fetched_as (c.as_str.ensures ∙ c.in-Ok.ensures) c.fetch_named.ensures
