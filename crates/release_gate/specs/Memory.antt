-- What a folder in memory tells.
use Rattle.std.specs.Prelude.{◌≡◌, ℕ, ◌<◌, ◌≤◌, List, length, Option, Some, None, Result, Ok, Err, ⊤}
use Rattle.std.specs.Map.{keys_of}
use Rattle.foundation.specs.Watched.{Watched}
use Rattle.sigstore_tuf_outside.specs.Memory.{files_of}
use Rattle.release_gate.specs.Folder.{Contents}
use Rattle.release_gate.specs.declared.folder.FolderFault.{FolderFault}
use Rattle.release_gate.specs.declared.folder.FolderFault.TheVariants.{Failed, TooLong, NoMemory}

-- the files of a map from names, each listed once
abbrev pub contents_of : List (List ℕ × List ℕ) → Contents
contents_of entries = record { files = files_of entries; names = keys_of entries }

abbrev pub told_contents : List (List ℕ × List ℕ) → ℕ → Watched Contents
told_contents entries faults = record { told = Some (contents_of entries); faults = faults }

-- the answer is this file, or its length where that is above the limit
abbrev pub IsFileOf : Option (List ℕ) → ℕ → Result (Option (List ℕ)) FolderFault → Type 0
IsFileOf file max (Ok None) = file ≡ None
IsFileOf file max (Ok (Some bytes)) = (file ≡ Some bytes) × (length bytes ≤ max)
IsFileOf file max (Err (TooLong seen)) = (max < seen) × (bytes : List ℕ) × (file ≡ Some bytes) × (seen ≡ length bytes)
IsFileOf file max (Err Failed) = ⊥
IsFileOf file max (Err NoMemory) = ⊤
