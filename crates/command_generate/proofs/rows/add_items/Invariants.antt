use Rattle.std.proofs.Common.{◌≡◌, take}
use Rattle.command_generate.specs.Provider.{rows_added}
use Rattle.command_generate.proofs.rows.add_items.Given as goal

abbrev pub invariant-items : goal.invariant-items
invariant-items l = l.provider.rows ≡ rows_added l.fn.provider.rows (take l.drawn-index l.items)
