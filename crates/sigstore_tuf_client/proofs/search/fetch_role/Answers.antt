use Rattle.std.proofs.Common.{ap, ◌∙◌}
use Rattle.sigstore_tuf_rules.specs.Names.{role_name_in}
use Rattle.sigstore_tuf_runs.proofs.Steps.{fetched_as}
use Rattle.sigstore_tuf_client.proofs.search.fetch_role.Goals as goal

pub returns-in-Ok : goal.returns-in-Ok
returns-in-Ok g c = fetched_as (c.as_str-in-Ok.ensures ∙ c.in-Ok.ensures ∙ ap (role_name_in c.args.documents.now) c.as_str.ensures) c.fetch_named.ensures
