use Rattle.der_grammar.specs.Laws.{no_prefix}
use Rattle.der_grammar.proofs.laws.no_prefix.Goals as goal

pub returns : goal.returns
returns g c = no_prefix _ g.met.T.Der.lawful
