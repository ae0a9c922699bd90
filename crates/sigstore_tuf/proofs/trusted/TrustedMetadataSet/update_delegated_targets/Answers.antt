use Rattle.std.proofs.Common.{Some, sym}
use Rattle.sigstore_tuf_rules.proofs.RolePuts.{role_updates_set}
use Rattle.sigstore_tuf.proofs.trusted.TrustedMetadataSet.update_delegated_targets.Goals as goal

pub invariant_of-self : goal.invariant_of-self
invariant_of-self g c = (role_updates_set _ _ _ _ (Some c.args.now) _ _ c.update_role_copied.ensures c.self.invariant).authorised

pub returns-in-Ok-clause-updates : goal.returns-in-Ok-clause-updates
returns-in-Ok-clause-updates g c =
    rw (sym c.self.view_is) (role_updates_set _ _ _ _ (Some c.args.now) _ _ (rw c.in-Ok.ensures at c.update_role_copied.ensures) c.self.invariant)
