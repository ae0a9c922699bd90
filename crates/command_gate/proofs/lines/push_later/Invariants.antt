use Rattle.std.proofs.Common.{◌≡◌, ◌++◌, drop, string_bytes}
use Rattle.command_gate.specs.Lines.{later_text}
use Rattle.command_gate.proofs.lines.push_later.Given as goal

abbrev pub invariant-numbers : goal.invariant-numbers
invariant-numbers l = string_bytes l.fn.text ++ later_text l.part l.numbers ≡ string_bytes l.text ++ later_text l.part (drop l.number-index l.numbers)
