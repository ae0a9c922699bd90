use Rattle.der_grammar.specs.SetLaws.{set_from-members}
use Rattle.der_grammar.proofs.laws.set_has_members.Goals as goal

pub returns : goal.returns
returns g c = λ members a e. set_from-members g.T.Der.grammar members a e
