use Rattle.std.proofs.Common.{ap, sym, ◌∙◌}
use Rattle.sigstore_tuf_rules.specs.Names.{kept_name}
use Rattle.sigstore_tuf_runs.proofs.Steps.{loaded_as}
use Rattle.sigstore_tuf_client.proofs.adopt.load_document.Goals as goal

pub returns-in-Ok : goal.returns-in-Ok
returns-in-Ok g c = loaded_as (c.as_str.ensures ∙ c.in-Ok.ensures ∙ ap kept_name (sym c.in-Root.is)) c.load_named.ensures

pub returns-in-Timestamp : goal.returns-in-Timestamp
returns-in-Timestamp g c = loaded_as (ap kept_name (sym c.in-Timestamp.is)) c.load_named-in-Timestamp.ensures

pub returns-in-Snapshot : goal.returns-in-Snapshot
returns-in-Snapshot g c = loaded_as (ap kept_name (sym c.in-Snapshot.is)) c.load_named-in-Snapshot.ensures

pub returns-in-Targets : goal.returns-in-Targets
returns-in-Targets g c = loaded_as (ap kept_name (sym c.in-Targets.is)) c.load_named-in-Targets.ensures
