-- By what trust comes, and where the folder and the other objects of `gate` lie, by its words.
use Rattle.std.specs.Prelude.{ℕ, List, [], ◌∷◌, codes, Result, Ok}
use Rattle.foundation.specs.Steps.{◌>>=◌}
use Rattle.command_files.specs.Named.{Values, named_of, text_at}
use Rattle.command_files.specs.declared.usage_fault.UsageFault.{UsageFault}
use Rattle.command_ways.specs.declared.folder_words.FolderLayout.{FolderLayout}
use Rattle.command_ways.specs.Layout.{trusted_in, places_in}

-- the names that are wanted, and those that may stand besides
abbrev pub wanted : List ℕ → List (List ℕ)
wanted rows = codes "--folder" ∷ codes "--policy" ∷ rows ∷ []

abbrev pub optional : List (List ℕ)
optional =
    codes "--root" ∷ codes "--repository" ∷ codes "--store" ∷ codes "--archive" ∷ codes "--trusted-root" ∷ codes "--now" ∷ []

-- the layout of values by their names
unfoldable pub folder_in : List ℕ → Values → Result FolderLayout UsageFault
folder_in rows found = do
  by ← trusted_in found
  places ← places_in by (codes "--folder") rows found
  Ok (record { by = by; archive = text_at (codes "--archive") found; places = places })

-- the layout of a command's words
unfoldable pub folder_under : List ℕ → List ℕ → List (List ℕ) → Result FolderLayout UsageFault
folder_under command rows words = named_of command (wanted rows) optional words >>= folder_in rows

-- that of `gate`: the rows are those of a provider file
unfoldable pub folder_layout_of : List (List ℕ) → Result FolderLayout UsageFault
folder_layout_of words = folder_under (codes "gate") (codes "--provider") words

-- that of `gate-questions`: the rows are of signatures that aren't good
unfoldable pub asked_folder_layout_of : List (List ℕ) → Result FolderLayout UsageFault
asked_folder_layout_of words = folder_under (codes "gate-questions") (codes "--refused") words
