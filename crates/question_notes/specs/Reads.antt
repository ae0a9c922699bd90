-- What the text of the questions is read as.
use Rattle.std.specs.Prelude.{◌≡◌, ℕ, List, Ok}
use Rattle.std.specs.Str.{IsAscii}
use Rattle.command_files.specs.Tables.{tables_of}
use Rattle.command_files.specs.declared.tables.Tables.{Tables}

-- the text is ASCII, and a provider file with these tables
pub record IsReadAs (text : List ℕ) (tables : Tables) : Type 0 where
  pub plain : IsAscii text
  pub read : tables_of text ≡ Ok tables
