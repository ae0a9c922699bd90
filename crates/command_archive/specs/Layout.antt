-- Where the objects of the commands `archive` and `check` lie, by their words.
use Rattle.std.specs.Prelude.{ℕ, List, [], ◌∷◌, codes, Option, Some, None, Result, Ok, ok_or}
use Rattle.foundation.specs.Steps.{◌>>=◌}
use Rattle.sigstore_types_parts.specs.Entries.{at_name}
use Rattle.sigstore_entries.specs.Checkpoint.{shortest_of}
use Rattle.command_files.specs.Layout.{Form, layout_in, layout_under}
use Rattle.command_files.specs.Named.{Values, named_of}
use Rattle.command_files.specs.declared.layout.Layout.{Layout}
use Rattle.command_files.specs.declared.usage_fault.UsageFault.{UsageFault}
use Rattle.command_files.specs.declared.usage_fault.UsageFault.TheVariants.{Usage}
use Rattle.command_archive.specs.declared.check_words.CheckLayout.{CheckLayout}

-- ---- `archive`, which judges nothing that lies anywhere

abbrev pub archive_form : Form
archive_form = record {
  command = codes "archive";
  wanted = codes "--root" ∷ codes "--repository" ∷ codes "--store" ∷ codes "--provider" ∷ [];
  judged = [];
  rows = codes "--provider";
}

unfoldable pub archive_layout_of : List (List ℕ) → Result Layout UsageFault
archive_layout_of words = layout_under archive_form words

-- ---- `check`

abbrev pub check_form : Form
check_form = record {
  command = codes "check";
  wanted = codes "--root" ∷ codes "--archive" ∷ codes "--provider" ∷ [];
  judged = codes "--archive";
  rows = codes "--provider";
}

-- what may stand besides: the least version, a file for the trusted root, and an instant
abbrev pub check_optional : List (List ℕ)
check_optional = codes "--least" ∷ codes "--trusted-root" ∷ codes "--now" ∷ []

-- the version of a text: a number below 2^64 in its shortest decimal
abbrev pub version_of : Option (List ℕ) → Result (Option ℕ) UsageFault
version_of None = Ok None
version_of (Some text) = ok_or (shortest_of text) Usage >>= λ version. Ok (Some version)

-- the layout of values by their names
unfoldable pub check_in : Values → Result CheckLayout UsageFault
check_in found = do
  least ← version_of (at_name (codes "--least") found)
  places ← layout_in check_form found
  Ok (record { places = places; least = least; trusted_root = at_name (codes "--trusted-root") found })

unfoldable pub check_layout_of : List (List ℕ) → Result CheckLayout UsageFault
check_layout_of words = named_of check_form.command check_form.wanted check_optional words >>= check_in
