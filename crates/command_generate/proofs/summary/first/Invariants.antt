use Rattle.std.proofs.Common.{◌≡◌, None, take}
use Rattle.command_generate.specs.Judged.{first_of}
use Rattle.command_generate.proofs.summary.first.Given as goal

abbrev pub invariant-outcomes : goal.invariant-outcomes
invariant-outcomes l = first_of l.number (take l.outcome-index l.outcomes) ≡ None
