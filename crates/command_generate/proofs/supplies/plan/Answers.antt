use Rattle.std.proofs.Common.{◌∙◌}
use Rattle.command_generate.proofs.Placing.{leaves_many}
use Rattle.command_generate.proofs.supplies.plan.Goals as goal

pub returns-clause-each : goal.returns-clause-each
returns-clause-each c = leaves_many _ c.args.drawn.now _ _ c.in_ok-root.ensures (c.as_slice.ensures ∙ c.in_ok-leaves.ensures)
