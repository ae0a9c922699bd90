use Rattle.std.proofs.Common.{ap, refl}
use Rattle.std.specs.Prelude.{option_map}
use Rattle.sigstore_tuf_parts.specs.declared.snapshot.Snapshot.{Snapshot}
use Rattle.sigstore_tuf_rules.specs.declared.documents.Held.{Held}
use Rattle.sigstore_tuf_rules.specs.Documents.{content_of}
use Rattle.sigstore_tuf_runs.specs.Search.{unserved, searched}
use Rattle.sigstore_tuf_runs.proofs.Searched.{served_snapshot}
use Rattle.sigstore_tuf_client.proofs.search.find_visits.Goals as goal

pub returns-in-Err : goal.returns-in-Err
returns-in-Err g c = unserved _ c.in-Err.ensures.err refl refl

pub returns-in-Ok : goal.returns-in-Ok
returns-in-Ok g c =
    let snapshot = served_snapshot c.args.documents.now c.args.session.now.moment c.in_default.ensures.ok in
    searched snapshot.0 _ c.in_default.ensures.ok snapshot.1 (c.in-Ok.ensures (content_of snapshot.0) (ap (option_map (λ (h : Held Snapshot). content_of h)) snapshot.1)) refl

pub returns-in-Err-walk_all : goal.returns-in-Err-walk_all
returns-in-Err-walk_all g c =
    let snapshot = served_snapshot c.args.documents.now c.args.session.now.moment c.in_default.ensures.ok in
    searched snapshot.0 _ c.in_default.ensures.ok snapshot.1 (c.in-Err-walk_all.ensures (content_of snapshot.0) (ap (option_map (λ (h : Held Snapshot). content_of h)) snapshot.1)) refl
