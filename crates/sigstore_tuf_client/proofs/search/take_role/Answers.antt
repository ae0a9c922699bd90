use Rattle.std.proofs.Common.{sym, subst}
use Rattle.sigstore_tuf_rules.specs.Taking.{Takes}
use Rattle.sigstore_tuf_rules.proofs.TakenIn.{other_taken_by}
use Rattle.sigstore_tuf_client.proofs.search.take_role.Goals as goal

pub returns : goal.returns
returns g c = subst (Takes _ _ _) (sym c.taken.ensures) (other_taken_by _ _ _ _ c.update_role.ensures)
