-- What contracts see of what was noted.
use Rattle.std.specs.Prelude.{string_bytes}
use Rattle.question_notes.specs.Notes.{Seen}
use Rattle.question_notes.specs.declared.noted.Noted.{Noted}

-- the rows, and the bytes of their lines
abbrev pub seen_of : Noted → Seen
seen_of noted = record { tables = noted.tables; text = string_bytes noted.text }
