use Rattle.std.proofs.Common.{length, arith, ap}
use Rattle.std.proofs.lemmas.List.{length-append}
use Rattle.der_grammar.specs.Tlv.{tlv}
use Rattle.der_grammar.specs.TlvLaws.{front_is}
use Rattle.der_grammar.proofs.reader.Reader.read_tlv.Goals as goal

pub overflow_sub-bytes : goal.overflow_sub-bytes
overflow_sub-bytes c = omega (arith, ap length c.in_ok-tag.ensures.found.whole, length-append (tlv c.in_ok-tag.tag c.in_ok-tag.value.now) c.in_ok-tag.rest.now)

pub returns-clause-whole : goal.returns-clause-whole
returns-clause-whole c = front_is _ _ c.split_at.result.1.now _ c.in_ok-tag.rest.now c.in_ok-tag.ensures.found.whole c.split_at.ensures.front
