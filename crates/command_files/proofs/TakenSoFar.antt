-- The reading of a whole source, while it goes on.
use Rattle.std.proofs.Common.{◌≡◌, ℕ, ◌+◌, ◌≤◌, List, length}
use Rattle.std.specs.Io.KnownBytes.{prepend_known}
use Rattle.foundation.specs.Watched.{Watched}

-- the bytes that were taken so far, and how many may still be taken
pub record TakenSoFar (old now : Watched (List ℕ)) (max left : ℕ) (bytes : List ℕ) : Type 0 where
  pub later : old.faults ≤ now.faults
  pub given : old.told ≡ prepend_known bytes now.told
  pub taken : length bytes + left ≡ max
