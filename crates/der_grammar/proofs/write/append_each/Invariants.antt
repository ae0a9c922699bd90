use Rattle.der_grammar.proofs.Loops.{WritesOn}
use Rattle.der_grammar.proofs.write.append_each.Given as goal

abbrev pub invariant-items : goal.invariant-items
invariant-items g l = WritesOn g.T.Der.grammar l.fn.out l.out l.items l.item-index
