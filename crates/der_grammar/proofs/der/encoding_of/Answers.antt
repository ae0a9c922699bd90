use Rattle.std.proofs.Common.{◌≡◌, Ok, rules}
use Rattle.der_grammar.specs.Grammar.{write}
use Rattle.der_grammar.specs.Laws.{one-written}
use Rattle.der_grammar.proofs.der.encoding_of.Goals as goal

pub returns-clause-encodes : goal.returns-clause-encodes
returns-clause-encodes g c =
    let is : write g.T.Der.grammar c.args.value.now ≡ Ok c.append_encoding.new.out = search rules in
    one-written g.T.Der.grammar g.met.T.Der.lawful c.args.value.now c.append_encoding.new.out is
