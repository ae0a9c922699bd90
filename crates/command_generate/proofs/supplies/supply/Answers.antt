use Rattle.std.proofs.Common.{IfOk, subst, ◌∙◌}
use Rattle.command_generate.specs.Supplies.{AreSupplied}
use Rattle.command_generate.proofs.Placing.{drawn_few}
use Rattle.command_generate.proofs.Supplied.{counted, signed}
use Rattle.command_generate.proofs.supplies.supply.Goals as goal

pub supply_drawn-made-requires-clause-most : goal.supply_drawn-made-requires-clause-most
supply_drawn-made-requires-clause-most c =
    drawn_few c.as_slice.result.now c.args.number c.args.count (c.as_slice.ensures ∙ c.in_ok-drawn.ensures) c.requires.most

pub returns-clause-count : goal.returns-clause-count
returns-clause-count c =
    counted c.args.number c.args.count c.supply_drawn-made.result
    (subst (λ drawn. IfOk c.supply_drawn-made.result (AreSupplied c.args.count drawn)) (c.as_slice.ensures ∙ c.in_ok-drawn.ensures) c.supply_drawn-made.ensures)

pub returns-clause-signed : goal.returns-clause-signed
returns-clause-signed c =
    signed c.args.count c.as_slice.result.now c.supply_drawn-made.result c.rows_are_found.ensures.signatures c.supply_drawn-made.ensures
