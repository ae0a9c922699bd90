-- A call that carries the floor carries it too where memory was then wanting.
use Rattle.std.proofs.Common.{Result, Ok, Err, refl}
use Rattle.std.specs.Prelude.{⊤}
use Rattle.sigstore_keys.specs.Crypto.{Crypto}
use Rattle.sigstore_tuf_text.specs.declared.error.Error.{Error}
use Rattle.sigstore_tuf_text.specs.declared.error.Error.TheVariants as tuf
use Rattle.sigstore_tuf_runs.specs.State.{State}
use Rattle.sigstore_tuf_runs.specs.Carried.{CarriesFloor}

pub wanting_carries : (crypto : Crypto) (old new : State) (answer : Result ⊤ Error) → CarriesFloor crypto old new answer → CarriesFloor crypto old new (Err tuf.NoMemory)
wanting_carries crypto old new answer c = record { floor = c.floor; left = c.left; kept = λ u h. absurd (u.0 refl); resumed = λ u b. absurd (u.0 refl) }
