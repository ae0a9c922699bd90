use Rattle.der_grammar.specs.Laws.{all-only, one-written}
use Rattle.der_grammar.proofs.laws.written_is_read.Goals as goal

pub returns : goal.returns
returns g c = λ a x e. all-only g.T.Der.grammar g.met.T.Der.lawful x a (one-written g.T.Der.grammar g.met.T.Der.lawful a x e)
