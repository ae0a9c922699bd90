use Rattle.command_bundles.proofs.judging.verify_list.Goals as goal

pub returns : goal.returns
returns g c = rw c.default.ensures at c.verify_by.ensures
