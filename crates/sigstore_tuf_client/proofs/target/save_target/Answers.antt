use Rattle.std.proofs.Common.{◌∙◌}
use Rattle.sigstore_tuf_runs.proofs.Steps.{saved_as}
use Rattle.sigstore_tuf_client.proofs.target.save_target.Goals as goal

pub returns-in-Ok : goal.returns-in-Ok
returns-in-Ok g c = saved_as (c.as_str.ensures ∙ c.in-Ok.ensures) (rw c.as_bytes.ensures at c.save.ensures)
