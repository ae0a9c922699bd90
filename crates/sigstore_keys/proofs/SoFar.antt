-- A reading to the end, while it goes on.
use Rattle.std.proofs.Common.{◌≡◌, ℕ, ◌+◌, ◌≤◌, List, length}
use Rattle.std.specs.Io.KnownBytes.{prepend_known}
use Rattle.foundation.specs.Watched.{Watched}
use Rattle.sigstore_keys.specs.Hasher.{Fed}

-- the bytes that were taken so far, and how many may still be taken
pub record SoFar {H : Type 0} (grows : H → List ℕ → H → Type 0) (old now : Watched (List ℕ)) (hashers hashers' : List H) (max left : ℕ) (bytes : List ℕ) : Type 0 where
  pub later : old.faults ≤ now.faults
  pub given : old.told ≡ prepend_known bytes now.told
  pub fed : Fed grows hashers hashers' bytes
  pub taken : length bytes + left ≡ max
