-- The numbers of the refusals.
use Rattle.std.specs.Prelude.{ℕ}
use Rattle.sigstore_keys.specs.declared.error.Error.{Error}
use Rattle.sigstore_keys.specs.declared.error.Error.TheVariants.{Signing, Verification, InvalidKeyFormat}
use Rattle.sigstore_keys.specs.declared.error.Error.TheVariants.{UnsupportedAlgorithm, Checkpoint, InvalidCertificate}
use Rattle.sigstore_keys.specs.declared.error.Error.TheVariants.{InvalidKey, NoMemory}

abbrev pub number_of : Error → ℕ
number_of Signing = 1
number_of (Verification fault) = 2
number_of InvalidKeyFormat = 3
number_of UnsupportedAlgorithm = 4
number_of (Checkpoint fault) = 5
number_of (InvalidCertificate fault) = 6
number_of (InvalidKey rule) = 7
number_of NoMemory = 8
