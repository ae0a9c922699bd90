-- What the files of a folder promise.
use Rattle.std.specs.Prelude.{ℕ, ◌<◌, ◌≤◌, List, length, Option, Some, None, Result, Ok, Err, ⊤}
use Rattle.release_gate.specs.declared.folder.FolderFault.{FolderFault}
use Rattle.release_gate.specs.declared.folder.FolderFault.TheVariants.{Failed, TooLong, NoMemory}

-- no more than the limit, and 'too long' only above it
abbrev pub IsWithin : ℕ → Result (Option (List ℕ)) FolderFault → Type 0
IsWithin max (Ok (Some bytes)) = length bytes ≤ max
IsWithin max (Ok None) = ⊤
IsWithin max (Err (TooLong seen)) = max < seen
IsWithin max (Err Failed) = ⊤
IsWithin max (Err NoMemory) = ⊤

-- a listing has no length
abbrev pub IsNeverLong : FolderFault → Type 0
IsNeverLong Failed = ⊤
IsNeverLong (TooLong seen) = ⊥
IsNeverLong NoMemory = ⊤

-- want of memory and length are never told of a piece
abbrev pub FailsAlone : FolderFault → Type 0
FailsAlone Failed = ⊤
FailsAlone (TooLong seen) = ⊥
FailsAlone NoMemory = ⊥
