use Rattle.std.proofs.Common.{sym}
use Rattle.foundation.specs.Watched.{untold}
use Rattle.sigstore_tuf_rules.proofs.Authorised.{is_stay}
use Rattle.sigstore_tuf_causes.proofs.FloorCarried.{attach_carries}
use Rattle.sigstore_tuf_causes.proofs.Staying.{attach_stays}
use Rattle.sigstore_tuf_causes.proofs.Holding.{attach_authorised}
use Rattle.sigstore_tuf_causes.proofs.Keeping.{attach_kept}
use Rattle.sigstore_tuf_runs.proofs.Steps.{attach_wants}
use Rattle.sigstore_tuf.proofs.parts.attach_parts.Goals as goal

pub invariant_of-set : goal.invariant_of-set
invariant_of-set g c = attach_authorised _ _ _ _ (c.attach.ensures (untold 0)) c.set.invariant

pub returns-clause-attached : goal.returns-clause-attached
returns-clause-attached g c = λ repo.
    let a = c.attach.ensures repo in
    rw (sym c.set.view_is) (record { attaches = a; authorised = is_stay (attach_stays _ _ _ _ a) c.set.invariant; refused = attach_wants _ _ _ _ a; stored = attach_kept _ _ _ _ c.set.invariant a; carries = attach_carries _ _ _ _ a })

pub returns-clause-authorised : goal.returns-clause-authorised
returns-clause-authorised g c = attach_authorised _ _ _ _ (c.attach.ensures (untold 0)) c.set.invariant
