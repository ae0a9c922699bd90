-- What is read of a file within a limit.
use Rattle.std.specs.Prelude.{ℕ, ◌<◌, ◌≤◌, List, length, Result, Ok, Err, ⊤}
use Rattle.sigstore_types_parts.specs.declared.file.FileFault.{FileFault}
use Rattle.sigstore_types_parts.specs.declared.file.FileFault.TheVariants.{Absent, TooLong, Failed, NoMemory}

-- no more than the limit, and 'too long' only above it
abbrev pub WithinLimit : ℕ → Result (List ℕ) FileFault → Type 0
WithinLimit max (Ok bytes) = length bytes ≤ max
WithinLimit max (Err (TooLong seen)) = max < seen
WithinLimit max (Err Absent) = ⊤
WithinLimit max (Err Failed) = ⊤
WithinLimit max (Err NoMemory) = ⊤
