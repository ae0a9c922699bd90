-- The lines behind the report of an accepted bundle: a function of the bundle's bytes and of what the judgement gave, which judges nothing
-- anew.
use Rattle.std.specs.Prelude.{ℕ, List, [], ◌++◌, length, Result, Ok, Err}
use Rattle.foundation.specs.Steps.{◌>>=◌}
use Rattle.sigstore_types_parts.specs.declared.error.TypesError.{TypesError}
use Rattle.sigstore_types.specs.Bundle.{bundle_of_bytes, tokens_in}
use Rattle.sigstore_judgement.specs.declared.report.JudgedBundle.{JudgedBundle}
use Rattle.sigstore_judgement.specs.declared.rules.JudgedByRule.{JudgedByRule}
use Rattle.verification_details.specs.declared.details.Shown.{Shown}
use Rattle.verification_details.specs.Statement.{statement_in}
use Rattle.verification_details.specs.Lines.{statement_lines, result_lines}

-- what a bundle's bytes tell: its statement, where it has one, and how many time-stamp tokens it has
unfoldable pub shown_of : List ℕ → Result Shown TypesError
shown_of bytes = do
  bundle ← bundle_of_bytes bytes
  statement ← statement_in bundle.content
  Ok (record { statement = statement; tokens = length (tokens_in bundle) })

-- the statement's lines, and those of the result
abbrev pub lines_of : Shown → JudgedBundle → List ℕ
lines_of shown judged = statement_lines judged.digests shown.statement ++ result_lines shown.tokens judged.result

-- the lines of what was read; none where the bytes aren't read, and then the judgement refused them too
abbrev pub lines_by : Result Shown TypesError → JudgedByRule → List ℕ
lines_by (Ok shown) judged = lines_of shown judged.judged
lines_by (Err e) judged = []

-- all lines of a bundle that was judged so
unfoldable pub details_of : List ℕ → JudgedByRule → List ℕ
details_of bundle judged = lines_by (shown_of bundle) judged
