use Rattle.std.proofs.Common.{◌≡◌, ◌+◌, ◌≤◌, [], length}
use Rattle.command_bundles.specs.Lines.{lines_of, bundles_from}
use Rattle.command_bundles.proofs.lines.bundles_in.Given as goal

-- the bundles of all lines are those of the lines that are left, behind those so far
abbrev pub invariant-lines : goal.invariant-lines
invariant-lines l = record {
  bundles : bundles_from [] 1 (lines_of l.list) ≡ bundles_from l.bundles l.line (lines_of l.rest);
  counted : l.line + length l.rest ≤ 1 + length l.list;
}

abbrev pub decreases-lines : goal.decreases-lines
decreases-lines l = length l.rest
