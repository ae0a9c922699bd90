use Rattle.der_grammar.specs.Laws.{all-found, all-same}
use Rattle.der_grammar.proofs.laws.read_is_written_same.Goals as goal

pub returns : goal.returns
returns g c = λ plain a x fits e. all-same g.T.Der.grammar g.met.T.Der.lawful x a plain (all-found g.T.Der.grammar g.met.T.Der.lawful x a fits e)
