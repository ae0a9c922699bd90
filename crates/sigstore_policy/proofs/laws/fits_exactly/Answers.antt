use Rattle.sigstore_policy.proofs.Fits.{fits_exactly}
use Rattle.sigstore_policy.proofs.laws.fits_exactly.Goals as goal

pub returns : goal.returns
returns c = fits_exactly
