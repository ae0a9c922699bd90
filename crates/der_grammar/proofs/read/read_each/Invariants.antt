use Rattle.std.proofs.Common.{length}
use Rattle.der_grammar.proofs.Loops.{ReadsOn}
use Rattle.der_grammar.proofs.read.read_each.Given as goal

abbrev pub invariant-values : goal.invariant-values
invariant-values g l = ReadsOn g.T.Der.grammar l.items.items l.reader l.fn.reader

abbrev pub decreases-values : goal.decreases-values
decreases-values g l = length l.reader
