use Rattle.std.proofs.Common.{◌≡◌}
use Rattle.command_generate.specs.Provider.{rows_with}
use Rattle.command_generate.proofs.rows.add_rows.Given as goal

abbrev pub invariant-rows : goal.invariant-rows
invariant-rows l = l.provider.rows ≡ rows_with l.fn.provider.rows l.yielded
