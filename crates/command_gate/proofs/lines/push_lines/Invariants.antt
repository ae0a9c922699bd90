use Rattle.std.proofs.Common.{◌≡◌, ◌++◌, drop, string_bytes}
use Rattle.command_gate.specs.Lines.{lines_text}
use Rattle.command_gate.proofs.lines.push_lines.Given as goal

abbrev pub invariant-lines : goal.invariant-lines
invariant-lines l = string_bytes l.fn.text ++ lines_text l.lines ≡ string_bytes l.text ++ lines_text (drop l.line-index l.lines)
