use Rattle.der_grammar.specs.SetLaws.{set_from-is_set}
use Rattle.der_grammar.proofs.set.SetOfVec.try_from.Goals as goal

pub invariant_of-result : goal.invariant_of-result
invariant_of-result g c = set_from-is_set g.T.Der.grammar c.args.members.items _ c.in_ok-in_order.ensures.ok
