use Rattle.std.proofs.Common.{◌≡◌, drop}
use Rattle.command_gate.specs.Lines.{all_admitted}
use Rattle.command_gate.proofs.lines.all_admitted.Given as goal

abbrev pub invariant-loop-line : goal.invariant-loop-line
invariant-loop-line l = all_admitted (drop l.line-index l.lines) ≡ all_admitted l.lines
