-- What the rows of questions say is so, and nothing but rows stands in their text.
use Rattle.std.specs.Prelude.{◌≡◌, ℕ, List, take, codes, bytes_eq, Bool, true, false, ◌||◌, Option, Some, None}
use Rattle.std.specs.List.{list_all}
use Rattle.sigstore_types_parts.specs.Entries.{at_name}
use Rattle.command_files.specs.Lines.{lines_of}
use Rattle.command_files.specs.Rows.{ArmorRows}
use Rattle.command_files.specs.declared.tables.Tables.{Tables}
use Rattle.sigstore_pem.specs.Pem.{content_of, key_label, certificate_label}

-- the first block of each row's text has this label, and holds the octets that the row says
abbrev pub Hold : List ℕ → ArmorRows → Type 0
Hold label rows = (text der : List ℕ) → at_name text rows ≡ Some der → content_of label text ≡ Some der

-- each armoured text holds what its row says
pub record TextsHold (tables : Tables) : Type 0 where
  pub keys : Hold key_label tables.armor.keys
  pub certificates : Hold certificate_label tables.armor.certificates

-- `armor` or `accept` and a blank stand first in the line
abbrev pub is_row_line : List ℕ → Bool
is_row_line line = bytes_eq (take 6 line) (codes "armor ") || bytes_eq (take 7 line) (codes "accept ")

abbrev pub are_row_lines : Option (List (List ℕ)) → Bool
are_row_lines None = false
are_row_lines (Some lines) = list_all is_row_line lines

-- The text has lines, each of which is a row's. A provider file may have comments and empty lines, which its reader passes over:
-- none is here.
abbrev pub HasRowsAlone : List ℕ → Type 0
HasRowsAlone text = are_row_lines (lines_of text) ≡ true
