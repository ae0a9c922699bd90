-- The inputs of a run over a list of bundles.
use Rattle.std.specs.Prelude.{ℕ, List, length, nat_lt, if◌then◌else◌, Option, Some, None, Result, Ok, Err}
use Rattle.foundation.specs.Steps.{◌>>=◌}
use Rattle.command_files.specs.Gather.{governed_of}
use Rattle.command_files.specs.Inputs.{Held}
use Rattle.command_files.specs.declared.gather.CommandStop.{CommandStop}
use Rattle.command_files.specs.declared.gather.CommandStop.TheVariants.{Input}
use Rattle.command_files.specs.declared.inputs.InputFile.TheVariants.{Bundle}
use Rattle.command_bundles.specs.declared.listed.Listed.{Listed}

-- the greatest length of a list in bytes: 64 MiB
abbrev pub max_list : ℕ
max_list = 67_108_864

-- a list that is there and isn't too long
abbrev pub within_list : Option (List ℕ) → Result (List ℕ) CommandStop
within_list None = Err (Input Bundle)
within_list (Some list) = if nat_lt max_list (length list) then Err (Input Bundle) else Ok list

unfoldable pub list_in : Held → Result (List ℕ) CommandStop
list_in held = within_list (held Bundle)

-- the list behind the other inputs, or the first refusal
unfoldable pub listed_in : Held → Result Listed CommandStop
listed_in held =
    governed_of held >>= λ governed.
    list_in held >>= λ list.
    Ok (record { governed = governed; list = list })
