use Rattle.command_ways.proofs.judging.verify_way.Goals as goal

pub returns : goal.returns
returns g c = rw c.default.ensures at c.verify_by.ensures
