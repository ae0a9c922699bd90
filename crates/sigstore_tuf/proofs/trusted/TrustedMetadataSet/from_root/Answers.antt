use Rattle.sigstore_tuf_rules.proofs.Authorised.{first_root_is_authorised}
use Rattle.sigstore_tuf.proofs.trusted.TrustedMetadataSet.from_root.Goals as goal

pub invariant_of-result : goal.invariant_of-result
invariant_of-result g c = first_root_is_authorised _ c.args.bytes.now c.in-Ok.documents c.in-Ok.ensures.ok

pub returns-in-Ok-clause-authorised : goal.returns-in-Ok-clause-authorised
returns-in-Ok-clause-authorised g c = first_root_is_authorised _ c.args.bytes.now c.in-Ok.documents c.in-Ok.ensures.ok
