-- What the reading of a whole source promises.
use Rattle.std.specs.Prelude.{◌≡◌, ◌⊎◌, ℕ, ◌+◌, ◌≤◌, List, length, Option, Result, Ok, Err}
use Rattle.std.specs.Io.KnownBytes.{prepend_known, IsAtEnd}
use Rattle.foundation.specs.Watched.{Watched, Rose}
use Rattle.command_files.specs.declared.whole.WholeFault.{WholeFault}
use Rattle.command_files.specs.declared.whole.WholeFault.TheVariants.{Failed, TooLong, NoMemory}

-- what the answer says of the bytes that were taken: they are all that were left, within the limit, and the answer; or a read failed after
-- them; or they are one more than the limit; or memory was wanting
abbrev pub AnswersAll : ℕ → ℕ → ℕ → Option (List ℕ) → List ℕ → Result (List ℕ) WholeFault → Type 0
AnswersAll max before now left bytes (Ok whole) = (whole ≡ bytes) × (length bytes ≤ max) × IsAtEnd left
AnswersAll max before now left bytes (Err Failed) = (length bytes ≤ max) × Rose before now
AnswersAll max before now left bytes (Err TooLong) = length bytes ≡ max + 1
AnswersAll max before now left bytes (Err NoMemory) = length bytes ≤ max

-- the promise of a reading in which these bytes were taken
pub record TookAll (old new : Watched (List ℕ)) (max : ℕ) (result : Result (List ℕ) WholeFault) (bytes : List ℕ) : Type 0 where
  pub later : old.faults ≤ new.faults
  pub given : old.told ≡ prepend_known bytes new.told
  pub answer : AnswersAll max old.faults new.faults new.told bytes result

abbrev pub ReadsAll : Watched (List ℕ) → Watched (List ℕ) → ℕ → Result (List ℕ) WholeFault → Type 0
ReadsAll old new max result = (bytes : List ℕ) × TookAll old new max result bytes

-- ---- what follows

-- these bytes are all that a source had left, within the limit
pub record GivesWhole (old new : Watched (List ℕ)) (max : ℕ) (bytes : List ℕ) : Type 0 where
  pub given : old.told ≡ prepend_known bytes new.told
  pub ended : IsAtEnd new.told
  pub short : length bytes ≤ max

-- a read failed, or one byte more than the limit was given
abbrev pub Unread : ℕ → Watched (List ℕ) → Watched (List ℕ) → Type 0
Unread max old new =
    Rose old.faults new.faults ⊎ ((bytes : List ℕ) × (old.told ≡ prepend_known bytes new.told) × (length bytes ≡ max + 1))
