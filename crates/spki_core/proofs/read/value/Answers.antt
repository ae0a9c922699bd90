use Rattle.std.proofs.Common.{arith, ap, length}
use Rattle.std.proofs.lemmas.List.{length-append}
use Rattle.spki_core.proofs.Shorter.{some_tlv}
use Rattle.spki_core.proofs.read.value.Goals as goal

pub returns-clause-shorter : goal.returns-clause-shorter
returns-clause-shorter c =
    omega (arith, ap length c.in_ok-tlv.ensures.front, ap length c.in_ok-tlv.ensures.whole, length-append c.in_ok-tlv.tlv.whole.now c.read_tlv.new.self, some_tlv c.in_ok-tlv.tlv.tag.0 c.in_ok-tlv.tlv.value.now)
