use Rattle.std.proofs.Common.{ℕ, List, Option, sym, subst}
use Rattle.command_outputs.specs.Concluding.{Delivers, Gives}
use Rattle.command_outputs.proofs.concluding.give.Goals as goal

pub returns-in-Some : goal.returns-in-Some
returns-in-Some g c =
    subst (λ (o : Option (List ℕ)). Gives o c.args.asked.now.bundle.now c.args.report (g.F.Shelf.seen c.args.shelf.now) (g.F.Shelf.seen c.deliver.new.shelf) c.deliver.result)
    (sym c.in-Some.is)
    (subst (λ (p : List ℕ). Delivers c.args.asked.now.bundle.now p c.args.report (g.F.Shelf.seen c.args.shelf.now) (g.F.Shelf.seen c.deliver.new.shelf) c.deliver.result)
    c.as_str.ensures c.deliver.ensures)
