use Rattle.std.proofs.Common.{◌≡◌, ◌≤◌, take}
use Rattle.command_generate.specs.Judged.{counted_of}
use Rattle.command_generate.proofs.summary.counted.Given as goal

abbrev pub invariant-outcomes : goal.invariant-outcomes
invariant-outcomes l = (l.count ≡ counted_of l.number (take l.outcome-index l.outcomes)) × (l.count ≤ l.outcome-index)
