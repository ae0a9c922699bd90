-- The numbers of refusals.
use Rattle.std.specs.Prelude.{ℕ}
use Rattle.sigstore_log.specs.declared.error.LogError.{LogError}
use Rattle.sigstore_log.specs.declared.error.LogError.TheVariants.{InclusionProof, Checkpoint, MalformedEntry, UnknownLog}
use Rattle.sigstore_log.specs.declared.error.LogError.TheVariants.{InclusionPromise, IntegratedTime, NoMemory}

abbrev pub number_of : LogError → ℕ
number_of InclusionProof = 1
number_of Checkpoint = 2
number_of MalformedEntry = 3
number_of (UnknownLog log_id) = 4
number_of InclusionPromise = 5
number_of IntegratedTime = 6
number_of NoMemory = 7
