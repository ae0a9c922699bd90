use Rattle.std.proofs.Common.{◌≡◌, map, take}
use Rattle.command_generate.specs.Workload.{tables_in}
use Rattle.command_generate.specs.Judged.{judged_as}
use Rattle.command_generate.proofs.judged.judge_items.Given as goal

abbrev pub invariant-items : goal.invariant-items
invariant-items l = l.outcomes ≡ map (judged_as (tables_in l.workload)) (take l.item-index l.workload.items)
