use Rattle.sigstore_tuf_parts.proofs.PinCauses.{integrity_cause, expiry_cause}
use Rattle.sigstore_tuf_parts.proofs.laws.pins_have_causes.Goals as goal

pub returns-clause-intact : goal.returns-clause-intact
returns-clause-intact c = integrity_cause

pub returns-clause-fresh : goal.returns-clause-fresh
returns-clause-fresh c = expiry_cause
