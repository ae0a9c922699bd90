use Rattle.std.proofs.Common.{◌≡◌, ◌++◌, drop}
use Rattle.command_generate.specs.Supplies.{items_from}
use Rattle.command_generate.proofs.supplies.items.Given as goal

abbrev pub invariant-items : goal.invariant-items
invariant-items l =
    items_from l.log 0 l.drawn l.paths ≡ l.items ++ items_from l.log l.index (drop l.index l.drawn) (drop l.index l.paths)
