-- What a reading of an input promises.
use Rattle.std.specs.Prelude.{◌≡◌, ℕ, ◌<◌, ◌≤◌, List, length, Option, Some, None, Result, Ok, Err, ⊤}
use Rattle.foundation.specs.Watched.{Watched, Rose, IfTold}
use Rattle.command_files.specs.declared.inputs.InputFile.{InputFile}
use Rattle.command_files.specs.declared.inputs.InputFile.TheVariants.{Root, Bundle, Policy, Provider}
use Rattle.command_files.specs.declared.inputs.InputFault.{InputFault}
use Rattle.command_files.specs.declared.inputs.InputFault.TheVariants.{Failed, Absent, TooLong, NoMemory}

-- the bytes of each input that is there
abbrev pub Held : Type 0
Held = InputFile → Option (List ℕ)

-- four inputs, each of which may be there
abbrev pub held_of : Option (List ℕ) → Option (List ℕ) → Option (List ℕ) → Option (List ℕ) → Held
held_of root bundle policy provider Root = root
held_of root bundle policy provider Bundle = bundle
held_of root bundle policy provider Policy = policy
held_of root bundle policy provider Provider = provider

-- What contracts see of inputs: those that are there, where they are told, how often a reading failed, and which input was the
-- last that was asked for and not given.
pub record Supply : Type 0 where
  pub told : Option Held
  pub faults : ℕ
  pub missing : Option InputFile

-- the same without the last
abbrev pub watched : Supply → Watched Held
watched supply = record { told = supply.told; faults = supply.faults }

-- what four inputs in memory tell
abbrev pub told_inputs : Option (List ℕ) → Option (List ℕ) → Option (List ℕ) → Option (List ℕ) → ℕ → Option InputFile → Supply
told_inputs root bundle policy provider faults missing =
    record { told = Some (held_of root bundle policy provider); faults = faults; missing = missing }

-- inputs that tell nothing of what is there
abbrev pub untold_inputs : ℕ → Option InputFile → Supply
untold_inputs faults missing = record { told = None; faults = faults; missing = missing }

-- the path of an input, of four paths
abbrev pub path_of : List ℕ → List ℕ → List ℕ → List ℕ → InputFile → List ℕ
path_of root bundle policy provider Root = root
path_of root bundle policy provider Bundle = bundle
path_of root bundle policy provider Policy = policy
path_of root bundle policy provider Provider = provider

-- at most max bytes are given, and what was refused as too long was longer
abbrev pub WithinLimit : ℕ → Result (List ℕ) InputFault → Type 0
WithinLimit max (Ok bytes) = length bytes ≤ max
WithinLimit max (Err (TooLong seen)) = max < seen
WithinLimit max (Err Failed) = ⊤
WithinLimit max (Err Absent) = ⊤
WithinLimit max (Err NoMemory) = ⊤

-- the answer is this input, its absence, or its length where that is above the limit
abbrev pub IsInput : Option (List ℕ) → Result (List ℕ) InputFault → Type 0
IsInput input (Ok bytes) = input ≡ Some bytes
IsInput input (Err Absent) = input ≡ None
IsInput input (Err (TooLong seen)) = (bytes : List ℕ) × (input ≡ Some bytes) × (seen ≡ length bytes)
IsInput input (Err Failed) = ⊤
IsInput input (Err NoMemory) = ⊤

abbrev pub FailsOnly : Type 0 → Result (List ℕ) InputFault → Type 0
FailsOnly P (Err Failed) = P
FailsOnly P (Ok bytes) = ⊤
FailsOnly P (Err Absent) = ⊤
FailsOnly P (Err (TooLong seen)) = ⊤
FailsOnly P (Err NoMemory) = ⊤

-- an input that isn't given is the last one that wasn't
abbrev pub IsMissing : InputFile → Option InputFile → Option InputFile → Result (List ℕ) InputFault → Type 0
IsMissing which old new (Ok bytes) = new ≡ old
IsMissing which old new (Err fault) = new ≡ Some which

-- the promise of a reading of an input
pub record Gives (which : InputFile) (old new : Supply) (max : ℕ) (result : Result (List ℕ) InputFault) : Type 0 where
  pub same : new.told ≡ old.told
  pub later : old.faults ≤ new.faults
  pub failed : FailsOnly (Rose old.faults new.faults) result
  pub limit : WithinLimit max result
  pub named : IsMissing which old.missing new.missing result
  pub input : IfTold old.told (λ held. IsInput (held which) result)
