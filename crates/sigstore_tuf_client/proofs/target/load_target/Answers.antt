use Rattle.std.proofs.Common.{◌∙◌}
use Rattle.sigstore_tuf_runs.proofs.Steps.{loaded_as}
use Rattle.sigstore_tuf_client.proofs.target.load_target.Goals as goal

pub returns-in-Ok : goal.returns-in-Ok
returns-in-Ok g c = loaded_as (c.as_str.ensures ∙ c.in-Ok.ensures) c.load_named.ensures
