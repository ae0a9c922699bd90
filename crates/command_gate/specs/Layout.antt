-- Where the objects of a run over a folder lie, by the words of its command.
use Rattle.std.specs.Prelude.{ℕ, List, [], ◌∷◌, codes, Result}
use Rattle.command_files.specs.Layout.{Form, layout_under}
use Rattle.command_files.specs.declared.usage_fault.UsageFault.{UsageFault}
use Rattle.command_files.specs.declared.layout.Layout.{Layout}

-- the names that are wanted
abbrev pub places : List ℕ → List (List ℕ)
places rows =
    codes "--root" ∷ codes "--repository" ∷ codes "--store" ∷ codes "--folder" ∷ codes "--policy" ∷ rows ∷ []

abbrev pub folder_form : List ℕ → List ℕ → Form
folder_form command rows = record { command = command; wanted = places rows; judged = codes "--folder"; rows = rows }

-- the layout of the words after the first, which is `gate`: the rows are those of a provider file
unfoldable pub gate_layout_of : List (List ℕ) → Result Layout UsageFault
gate_layout_of words = layout_under (folder_form (codes "gate") (codes "--provider")) words

-- the layout of the words after the first, which is `gate-questions`: the rows are of signatures that aren't good
unfoldable pub asked_gate_layout_of : List (List ℕ) → Result Layout UsageFault
asked_gate_layout_of words = layout_under (folder_form (codes "gate-questions") (codes "--refused")) words
