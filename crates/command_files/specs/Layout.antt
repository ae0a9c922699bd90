-- Where the objects of a run lie, by the words of its command.
use Rattle.std.specs.Prelude.{ℕ, List, [], ◌∷◌, codes, Result, Ok}
use Rattle.foundation.specs.Steps.{◌>>=◌}
use Rattle.command_files.specs.Named.{Values, texts, named_of, text_at, moment_at}
use Rattle.command_files.specs.declared.usage_fault.UsageFault.{UsageFault}
use Rattle.command_files.specs.declared.layout.Form as declared
use Rattle.command_files.specs.declared.layout.Layout.{Layout}

-- the words of a command: its own, and the names that are wanted behind it, among which are that of what is judged and that of the file of
-- rows
pub record Form : Type 0 where
  pub command : List ℕ
  pub wanted : List (List ℕ)
  pub judged : List ℕ
  pub rows : List ℕ

abbrev pub form_by : declared.Form → Form
form_by form = record {
  command = form.command.now;
  wanted = texts form.wanted.now;
  judged = form.judged.now;
  rows = form.rows.now;
}

-- the layout of values by their names; a place whose name has none is empty
abbrev pub layout_in : Form → Values → Result Layout UsageFault
layout_in form found = do
  now ← moment_at (codes "--now") found
  Ok (record {
    root = text_at (codes "--root") found;
    repository = text_at (codes "--repository") found;
    store = text_at (codes "--store") found;
    bundle = text_at (codes "--bundle") found;
    judged = text_at form.judged found;
    policy = text_at (codes "--policy") found;
    provider = text_at form.rows found;
    now = now;
  })

-- the layout of a command's words: an instant may stand besides
abbrev pub layout_under : Form → List (List ℕ) → Result Layout UsageFault
layout_under form words = named_of form.command form.wanted (codes "--now" ∷ []) words >>= layout_in form

-- the names that are wanted where a bundle is judged, or what its judgement asks
abbrev pub places : List ℕ → List (List ℕ)
places rows =
    codes "--root" ∷ codes "--repository" ∷ codes "--store" ∷ codes "--bundle"
    ∷ codes "--artifact" ∷ codes "--policy" ∷ rows ∷ []

abbrev pub bundle_form : List ℕ → List ℕ → Form
bundle_form command rows = record { command = command; wanted = places rows; judged = codes "--artifact"; rows = rows }

-- the layout of the words after the first, which is `verify`: the rows are those of a provider file
unfoldable pub layout_of : List (List ℕ) → Result Layout UsageFault
layout_of words = layout_under (bundle_form (codes "verify") (codes "--provider")) words

-- the layout of the words after the first, which is `questions`: the rows are of signatures that aren't good
unfoldable pub asked_layout_of : List (List ℕ) → Result Layout UsageFault
asked_layout_of words = layout_under (bundle_form (codes "questions") (codes "--refused")) words
