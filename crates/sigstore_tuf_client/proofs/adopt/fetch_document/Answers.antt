use Rattle.std.proofs.Common.{ap, sym, ◌∙◌}
use Rattle.sigstore_tuf_rules.specs.Names.{file_name}
use Rattle.sigstore_tuf_runs.specs.State.{session_by}
use Rattle.sigstore_tuf_runs.proofs.Steps.{fetched_for, pinned_same}
use Rattle.sigstore_tuf_text.specs.Names.{snapshot_name, targets_name}
use Rattle.sigstore_tuf_client.proofs.adopt.fetch_document.Goals as goal

pub returns-in-Ok : goal.returns-in-Ok
returns-in-Ok g c = fetched_for (session_by g.C.CryptoProvider g.M.Armor c.args.session.now) c.args.documents.now c.args.kind (c.as_str.ensures ∙ c.in-Ok.ensures ∙ ap (file_name c.args.documents.now) (sym c.in-Root.is)) c.max_length-max.ensures c.fetch_named.ensures

pub returns-in-Timestamp : goal.returns-in-Timestamp
returns-in-Timestamp g c = fetched_for (session_by g.C.CryptoProvider g.M.Armor c.args.session.now) c.args.documents.now c.args.kind (ap (file_name c.args.documents.now) (sym c.in-Timestamp.is)) c.max_length-max.ensures c.fetch_named-in-Timestamp.ensures

pub returns-in-Snapshot : goal.returns-in-Snapshot
returns-in-Snapshot g c =
    fetched_for (session_by g.C.CryptoProvider g.M.Armor c.args.session.now) c.args.documents.now c.args.kind
    (pinned_same snapshot_name c.is_consistent-consistent.ensures c.snapshot_pin_in-pin.ensures ∙ ap (file_name c.args.documents.now) (sym c.in-Snapshot.is)) c.max_length-max.ensures c.fetch_pinned.ensures

pub returns-in-Targets : goal.returns-in-Targets
returns-in-Targets g c =
    fetched_for (session_by g.C.CryptoProvider g.M.Armor c.args.session.now) c.args.documents.now c.args.kind
    (pinned_same targets_name c.is_consistent-consistent.ensures c.targets_pin_in-pin.ensures ∙ ap (file_name c.args.documents.now) (sym c.in-Targets.is)) c.max_length-max.ensures c.fetch_pinned-in-Targets.ensures
