use Rattle.std.proofs.Common.{sym}
use Rattle.sigstore_tuf_rules.proofs.Authorised.{is_stay}
use Rattle.sigstore_tuf_causes.proofs.SearchCarried.{gets_carry}
use Rattle.sigstore_tuf_causes.proofs.Searching.{chain_trusted, gets_stays, gets_authorised}
use Rattle.sigstore_tuf_causes.proofs.TargetCauses.{gets_cause}
use Rattle.sigstore_tuf_causes.proofs.TargetKept.{gets_stay, gets_kept}
use Rattle.sigstore_tuf.proofs.parts.get_target_parts.Goals as goal

pub invariant_of-set : goal.invariant_of-set
invariant_of-set g c = gets_authorised _ _ _ _ _ c.find_chain.ensures c.set.invariant

pub returns-clause-got : goal.returns-clause-got
returns-clause-got g c =
    let f = c.find_chain.ensures in
    rw (sym c.set.view_is) (record {
      gets = f;
      authorised = is_stay (gets_stays _ _ _ _ _ f) c.set.invariant;
      trusted = chain_trusted _ _ _ _ _ c.set.invariant f;
      cause = gets_cause _ _ _ _ _ c.set.invariant f;
      kept = gets_stay _ _ _ _ _ f;
      carries = gets_carry _ _ _ _ _ f;
      stored = gets_kept _ _ _ _ _ f;
    })

pub returns-clause-authorised : goal.returns-clause-authorised
returns-clause-authorised g c = gets_authorised _ _ _ _ _ c.find_chain.ensures c.set.invariant
