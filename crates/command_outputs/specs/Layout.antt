-- What is asked for beside the report, and the way of the verification, by the words of `verify`.
use Rattle.std.specs.List.{list_any}
use Rattle.std.specs.Prelude.{ℕ, List, [], ◌∷◌, codes, Bool, not, ◌&&◌, bytes_eq, filter, filter_map, is_none, Option, Some, None, Result, Ok, Err}
use Rattle.foundation.specs.Steps.{◌>>=◌}
use Rattle.command_files.specs.declared.usage_fault.UsageFault.{UsageFault}
use Rattle.command_files.specs.declared.usage_fault.UsageFault.TheVariants.{Usage}
use Rattle.command_download.specs.Layout.{given_of}
use Rattle.command_ways.specs.Digests.{behind}
use Rattle.command_ways.specs.Layout.{way_layout_of}
use Rattle.command_outputs.specs.declared.layout.OutputsLayout.{OutputsLayout}

-- the path that a word `--statement=FILE` names; none for a word of another name
abbrev pub file_in : List ℕ → Option (List ℕ)
file_in word = behind (codes "--statement=") word

-- the paths that the words name so
abbrev pub files_in : List (List ℕ) → List (List ℕ)
files_in words = filter_map file_in words

-- the word that asks for the lines behind the report
abbrev pub is_details : List ℕ → Bool
is_details word = bytes_eq word (codes "--details")

-- a word of neither
abbrev pub is_other : List ℕ → Bool
is_other word = is_none (file_in word) && not (is_details word)

abbrev pub others_in : List (List ℕ) → List (List ℕ)
others_in words = filter is_other words

-- at most one, which isn't empty
abbrev pub file_of : List (List ℕ) → Result (Option (List ℕ)) UsageFault
file_of [] = Ok None
file_of (file ∷ []) = given_of (Some file) >>= λ path. Ok (Some path)
file_of (file ∷ other ∷ files) = Err Usage

-- The words of `verify` in any way, among them at most one `--statement=FILE`, and `--details` or not.
unfoldable pub outputs_layout_of : List (List ℕ) → Result OutputsLayout UsageFault
outputs_layout_of words = do
  file ← file_of (files_in words)
  layout ← way_layout_of (others_in words)
  Ok (record { verification = layout; outputs = record { statement = file; details = list_any is_details words } })
