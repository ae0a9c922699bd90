use Rattle.der_grammar.proofs.Sorting.{sorted_is_ordered}
use Rattle.der_grammar.proofs.keyed.sort.Goals as goal

pub returns : goal.returns
returns g c = sorted_is_ordered c.args.keys.now.items c.sort.new.self.items c.in_ok-sort.ensures.sorted c.in_ok-sort.ensures.stable
