-- What a fetch promises.
use Rattle.std.specs.Prelude.{◌≡◌, ℕ, ◌+◌, ◌-◌, ◌^◌, ◌<◌, ◌≤◌, min, List, length, Option, Some, None, Result, Ok, Err, ⊤}
use Rattle.foundation.specs.Watched.{Watched, Rose, IfTold}
use Rattle.sigstore_tuf_outside.specs.declared.repository.FetchFault.{FetchFault}
use Rattle.sigstore_tuf_outside.specs.declared.repository.FetchFault.TheVariants.{Failed, TooLong, NoMemory}

-- the count of faults didn't rise
abbrev pub Quiet : ℕ → ℕ → Type 0
Quiet before now = now < min (before + 1) (2 ^ 64 - 1)

-- the bytes under each name
abbrev pub Files : Type 0
Files = List ℕ → Option (List ℕ)

pub record Folders : Type 0 where
  pub metadata : Files
  pub targets : Files

abbrev pub metadata_files : Folders → Files
metadata_files folders = folders.metadata

abbrev pub target_files : Folders → Files
target_files folders = folders.targets

-- at most max bytes are given, and more were seen of what is too long
abbrev pub WithinLimit : ℕ → Result (Option (List ℕ)) FetchFault → Type 0
WithinLimit max (Ok (Some bytes)) = length bytes ≤ max
WithinLimit max (Ok None) = ⊤
WithinLimit max (Err (TooLong seen)) = max < seen
WithinLimit max (Err Failed) = ⊤
WithinLimit max (Err NoMemory) = ⊤

-- the answer is this file, or its length where that is above the limit
abbrev pub IsFile : Option (List ℕ) → Result (Option (List ℕ)) FetchFault → Type 0
IsFile file (Ok given) = given ≡ file
IsFile file (Err (TooLong seen)) = (bytes : List ℕ) × (file ≡ Some bytes) × (seen ≡ length bytes)
IsFile file (Err Failed) = ⊤
IsFile file (Err NoMemory) = ⊤

-- Failed only where P
abbrev pub FailsOnly : Type 0 → Result (Option (List ℕ)) FetchFault → Type 0
FailsOnly P (Ok given) = ⊤
FailsOnly P (Err (TooLong seen)) = ⊤
FailsOnly P (Err Failed) = P
FailsOnly P (Err NoMemory) = ⊤

-- the promise of a fetch from the files that `part` names: told files stay as they were, and the answer is of them
pub record Fetches (part : Folders → Files) (old new : Watched Folders) (name : List ℕ) (max : ℕ)
    (result : Result (Option (List ℕ)) FetchFault) : Type 0 where
  pub same : new.told ≡ old.told
  pub later : old.faults ≤ new.faults
  pub failed : FailsOnly (Rose old.faults new.faults) result
  pub limit : WithinLimit max result
  pub file : IfTold old.told (λ folders. IsFile (part folders name) result)
