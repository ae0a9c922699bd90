use Rattle.std.proofs.Common.{None, sym}
use Rattle.sigstore_tuf_rules.specs.declared.kind.Kind.TheVariants.{Root}
use Rattle.sigstore_tuf_rules.proofs.Authorised.{updates_set}
use Rattle.sigstore_tuf.proofs.trusted.TrustedMetadataSet.update_root.Goals as goal

pub invariant_of-self : goal.invariant_of-self
invariant_of-self g c = (updates_set _ (Root 0) None _ _ _ _ c.update_copied.ensures c.self.invariant).authorised

pub returns-clause-updates : goal.returns-clause-updates
returns-clause-updates g c = rw (sym c.self.view_is) (updates_set _ (Root 0) None _ _ _ _ c.update_copied.ensures c.self.invariant)
