use Rattle.sigstore_tuf_text.proofs.Fits.{fits_exactly}
use Rattle.sigstore_tuf_parts.proofs.IntegrityLaws.{integrity_exactly, fresh_exactly}
use Rattle.sigstore_tuf_parts.proofs.laws.relations_exactly.Goals as goal

pub returns-clause-intact : goal.returns-clause-intact
returns-clause-intact c = integrity_exactly

pub returns-clause-fresh : goal.returns-clause-fresh
returns-clause-fresh c = fresh_exactly

pub returns-clause-fits : goal.returns-clause-fits
returns-clause-fits c = fits_exactly
