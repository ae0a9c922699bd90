use Rattle.std.proofs.Common.{arith}
use Rattle.std.proofs.lemmas.Result.{IfOk-weaker}
use Rattle.der_grammar.specs.TlvLaws.{IsBytes-from_each}
use Rattle.der_grammar.specs.Laws.{all-found}
use Rattle.der_grammar.proofs.Outcomes.{only_that}
use Rattle.der_grammar.proofs.der.value_of_all.Goals as goal

pub returns-clause-found : goal.returns-clause-found
returns-clause-found g c = IfOk-weaker c.only_value.result _ _ (λ a e. all-found g.T.Der.grammar g.met.T.Der.lawful c.args.bytes.now a (IsBytes-from_each _ (λ i. omega (arith, c.type_inv.bytes i))) e) c.only_value.ensures.ok

pub returns-clause-only : goal.returns-clause-only
returns-clause-only g c = λ a s. only_that g.T.Der.grammar g.met.T.Der.lawful c.args.bytes.now a s c.only_value.result c.only_value.ensures.ok c.only_value.ensures.err
