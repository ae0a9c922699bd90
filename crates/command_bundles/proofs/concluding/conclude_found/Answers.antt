use Rattle.std.proofs.Common.{sym, subst}
use Rattle.command_bundles.specs.Concluding.{ConcludesFound}
use Rattle.command_bundles.specs.Judging.{found_as}
use Rattle.command_bundles.specs.declared.judging.Found.{Found}
use Rattle.command_bundles.proofs.concluding.conclude_found.Goals as goal

pub returns-in-Accepted : goal.returns-in-Accepted
returns-in-Accepted g c =
    subst (λ (x : Found). ConcludesFound c.args.telling c.args.outputs.now c.args.trust (found_as x) (g.F.Shelf.seen c.args.shelf.now)
    (g.F.Shelf.seen c.conclude_accepted.new.shelf) c.conclude_accepted.result) (sym c.in-Accepted.is)
    (rw c.as_bytes.ensures at c.conclude_accepted.ensures)
