use Rattle.std.proofs.Common.{ap, sym, ◌∙◌}
use Rattle.sigstore_tuf_text.specs.Names.{snapshot_name}
use Rattle.sigstore_tuf_rules.specs.Names.{kept_names}
use Rattle.sigstore_tuf_runs.proofs.Steps.{kept_as, both_same}
use Rattle.sigstore_tuf_client.proofs.adopt.save_document.Goals as goal

pub returns-in-Root : goal.returns-in-Root
returns-in-Root g c = kept_as c.args.documents.now c.args.kind (ap (kept_names c.args.documents.now) (sym c.in-Root.is)) (c.save_root.ensures c.args.documents.now).saves

pub returns-in-Timestamp : goal.returns-in-Timestamp
returns-in-Timestamp g c = kept_as c.args.documents.now c.args.kind (ap (kept_names c.args.documents.now) (sym c.in-Timestamp.is)) c.save_alone.ensures

pub returns-in-Snapshot : goal.returns-in-Snapshot
returns-in-Snapshot g c =
    kept_as c.args.documents.now c.args.kind
    (both_same snapshot_name c.is_consistent-consistent.ensures c.snapshot_pin_in-pin.ensures ∙ ap (kept_names c.args.documents.now) (sym c.in-Snapshot.is)) c.save_pinned.ensures

pub returns-in-Targets : goal.returns-in-Targets
returns-in-Targets g c = kept_as c.args.documents.now c.args.kind (ap (kept_names c.args.documents.now) (sym c.in-Targets.is)) c.save_alone-in-Targets.ensures
