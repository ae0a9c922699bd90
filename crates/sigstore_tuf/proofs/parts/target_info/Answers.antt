use Rattle.std.proofs.Common.{sym}
use Rattle.sigstore_tuf_rules.proofs.Authorised.{is_stay}
use Rattle.sigstore_tuf_causes.proofs.SearchCarried.{info_carries}
use Rattle.sigstore_tuf_causes.proofs.Searching.{info_found, info_stays_authorised, info_authorised}
use Rattle.sigstore_tuf_causes.proofs.TargetCauses.{info_cause}
use Rattle.sigstore_tuf_causes.proofs.TargetKept.{info_stays}
use Rattle.sigstore_tuf.proofs.parts.target_info.Goals as goal

pub invariant_of-set : goal.invariant_of-set
invariant_of-set g c = info_authorised _ _ _ _ _ c.find_info.ensures c.set.invariant

pub returns-clause-informed : goal.returns-clause-informed
returns-clause-informed g c =
    let f = c.find_info.ensures in
    rw (sym c.set.view_is) (record {
      gives = f;
      authorised = is_stay (info_stays_authorised _ _ _ _ _ f) c.set.invariant;
      found = info_found _ _ _ _ _ c.set.invariant f;
      cause = info_cause _ _ _ _ _ f;
      kept = info_stays _ _ _ _ _ f;
      carries = info_carries _ _ _ _ _ f;
    })

pub returns-clause-authorised : goal.returns-clause-authorised
returns-clause-authorised g c = info_authorised _ _ _ _ _ c.find_info.ensures c.set.invariant
