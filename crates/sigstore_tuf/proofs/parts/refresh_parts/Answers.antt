use Rattle.std.proofs.Common.{sym}
use Rattle.sigstore_tuf_rules.proofs.Authorised.{is_stay}
use Rattle.sigstore_tuf_causes.proofs.FloorCarried.{refresh_carries}
use Rattle.sigstore_tuf_causes.proofs.Staying.{refresh_stays}
use Rattle.sigstore_tuf_causes.proofs.Holding.{refresh_authorised}
use Rattle.sigstore_tuf_causes.proofs.Keeping.{refresh_kept}
use Rattle.sigstore_tuf_causes.proofs.Newest.{on_refresh_newest}
use Rattle.sigstore_tuf_causes.proofs.Serving.{on_refresh}
use Rattle.sigstore_tuf_causes.proofs.Causes.{refresh_cause}
use Rattle.sigstore_tuf.proofs.parts.refresh_parts.Goals as goal

pub invariant_of-set : goal.invariant_of-set
invariant_of-set g c = refresh_authorised _ _ _ _ c.run_steps.ensures c.set.invariant

pub returns-clause-refreshed : goal.returns-clause-refreshed
returns-clause-refreshed g c =
    let r = c.run_steps.ensures in
    rw (sym c.set.view_is) (record {
      runs = r;
      authorised = is_stay (refresh_stays _ _ _ _ r) c.set.invariant;
      serves = on_refresh _ _ _ _ r;
      cause = refresh_cause _ _ _ _ c.set.invariant r;
      newest = on_refresh_newest _ _ _ _ r;
      stored = refresh_kept _ _ _ _ c.set.invariant r;
      carries = refresh_carries _ _ _ _ r;
    })

pub returns-clause-authorised : goal.returns-clause-authorised
returns-clause-authorised g c = refresh_authorised _ _ _ _ c.run_steps.ensures c.set.invariant
