use Rattle.std.proofs.Common.{◌≡◌, take}
use Rattle.command_generate.specs.Supplies.{leaves_of}
use Rattle.command_generate.proofs.supplies.leaves.Given as goal

abbrev pub invariant-drawn : goal.invariant-drawn
invariant-drawn l = l.leaves ≡ leaves_of (take l.item-index l.drawn)
