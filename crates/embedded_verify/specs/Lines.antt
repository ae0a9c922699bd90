-- The lines of a call's texts, but for the rows of signatures.
use Rattle.std.specs.Prelude.{ℕ, List, [], ◌∷◌, ◌++◌, codes}
use Rattle.std.specs.Fmt.{decimal}
use Rattle.question_notes.specs.Lines.{field_text}

-- `keep NAME BYTES`, a file that the store is to keep
unfoldable pub keep_line : List ℕ → List ℕ → List ℕ
keep_line name bytes = codes "keep " ++ field_text name ++ 32 ∷ field_text bytes ++ 10 ∷ []

abbrev pub keep_lines : List (List ℕ × List ℕ) → List ℕ
keep_lines [] = []
keep_lines (file ∷ files) = keep_line file.0 file.1 ++ keep_lines files

-- `file NAME MAX`, a file of the repository that is wanted, of which at most so many bytes are of use
unfoldable pub file_line : List ℕ → ℕ → List ℕ
file_line name max = codes "file " ++ field_text name ++ 32 ∷ decimal max ++ 10 ∷ []
