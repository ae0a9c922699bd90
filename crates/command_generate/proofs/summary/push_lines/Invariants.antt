use Rattle.std.proofs.Common.{◌≡◌, ◌-◌, ◌++◌, string_bytes}
use Rattle.command_generate.specs.Judged.{lines_from}
use Rattle.command_generate.proofs.summary.push_lines.Given as goal

abbrev pub invariant-numbers : goal.invariant-numbers
invariant-numbers l =
    string_bytes l.fn.text ++ lines_from 1 32 l.outcomes ≡ string_bytes l.text ++ lines_from l.number (33 - l.number) l.outcomes
