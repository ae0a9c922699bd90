use Rattle.std.proofs.Common.{arith}
use Rattle.std.proofs.lemmas.Result.{IfOk-weaker}
use Rattle.der_grammar.specs.TlvLaws.{IsBytes-from_each, tlv_takes}
use Rattle.der_grammar.proofs.reader.checked_tlv_of.Goals as goal

pub returns-clause-found : goal.returns-clause-found
returns-clause-found c = IfOk-weaker c.tlv_of.result _ _ (λ x e. tlv_takes c.args.bytes.now x.0 x.1.now x.2.now (IsBytes-from_each _ (λ i. omega (arith, c.type_inv.bytes i))) e) c.tlv_of.ensures.ok
