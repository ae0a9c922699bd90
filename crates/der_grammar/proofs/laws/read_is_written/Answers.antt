use Rattle.der_grammar.specs.Laws.{all-found, all-writes, one-written}
use Rattle.der_grammar.proofs.laws.read_is_written.Goals as goal

pub returns : goal.returns
returns g c = λ a x fits e.
    let w = all-writes g.T.Der.grammar g.met.T.Der.lawful x a (all-found g.T.Der.grammar g.met.T.Der.lawful x a fits e) in
    (w.0, w.1, one-written g.T.Der.grammar g.met.T.Der.lawful a w.0 w.1, w.2)
