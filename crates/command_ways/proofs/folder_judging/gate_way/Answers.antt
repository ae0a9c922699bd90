use Rattle.command_ways.proofs.folder_judging.gate_way.Goals as goal

pub returns-clause-gates : goal.returns-clause-gates
returns-clause-gates g c = rw c.default.ensures at c.gate_by.ensures.gates

pub returns-clause-rests : goal.returns-clause-rests
returns-clause-rests g c = rw c.default.ensures at c.gate_by.ensures.rests
