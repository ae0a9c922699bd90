-- What a read promises.
use Rattle.std.specs.Prelude.{◌≡◌, ℕ, ◌<◌, ◌≤◌, List, length, take, Option, Result, Ok, Err, IfOk, OnErr}
use Rattle.std.specs.Io.{ReadsAtMost}
use Rattle.std.specs.Io.KnownBytes.{prepend_known, IsAtEnd}
use Rattle.foundation.specs.Watched.{Watched, Rose}

-- the told bytes lose those that were given, and nothing where the read failed
abbrev pub Gives : {E : Type 0} → Option (List ℕ) → Option (List ℕ) → List ℕ → Result ℕ E → Type 0
Gives old new buf (Ok n) = old ≡ prepend_known (take n buf) new
Gives old new buf (Err e) = new ≡ old

-- the promise of a read: the count of faults never falls, and rises where the read fails; no more is given than
-- the buffer holds; and 0 for a nonempty buffer comes only where nothing is left
pub record Reads {E : Type 0} (old new : Watched (List ℕ)) (buf : List ℕ) (result : Result ℕ E) : Type 0 where
  pub later : old.faults ≤ new.faults
  pub failed : OnErr result (Rose old.faults new.faults)
  pub bound : ReadsAtMost result buf
  pub given : Gives old.told new.told buf result
  pub ended : IfOk result (λ n. n ≡ 0 → 0 < length buf → IsAtEnd new.told)
