-- Laws of the tables' rows: a row that is added is found, and changes no other answer.
use Rattle.std.specs.Prelude.{◌≡◌, ℕ, List, bytes_eq, ◌||◌, if◌then◌else◌, Some}
use Rattle.std.specs.BTreeMap.{insert_entry}
use Rattle.sigstore_types_parts.specs.Entries.{text_cmp, at_name}
use Rattle.sigstore_keys.specs.declared.scheme.SigningScheme.{SigningScheme}
use Rattle.command_files.specs.Rows.{AcceptRows, ArmorRows, is_row, with_accept_row, accepts_of}
use Rattle.command_files.specs.declared.rows.AcceptRow.{AcceptRow}

-- with a row more exactly its signature is accepted besides
abbrev pub AddsSignature : Type 0
AddsSignature = (rows : AcceptRows) (row : AcceptRow) (scheme : SigningScheme) (key subject signature : List ℕ)
    → accepts_of (with_accept_row rows row) scheme key subject signature
    ≡ (accepts_of rows scheme key subject signature || is_row scheme key subject signature row)

-- with a row more exactly its text holds what the row says besides
abbrev pub AddsText : Type 0
AddsText = (rows : ArmorRows) (text der other : List ℕ)
    → at_name other (insert_entry text_cmp rows text der) ≡ (if bytes_eq other text then Some der else at_name other rows)
