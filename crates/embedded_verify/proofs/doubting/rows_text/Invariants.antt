use Rattle.std.proofs.Common.{string_bytes}
use Rattle.embedded_verify.specs.Means.{AsksRows}
use Rattle.embedded_verify.proofs.doubting.rows_text.Given as goal

-- only questions that are open were written
abbrev pub invariant-loop-row : goal.invariant-loop-row
invariant-loop-row l = AsksRows l.good.rows l.bad.rows (string_bytes l.noted.text)
