use Rattle.std.proofs.Common.{◌≡◌, length}
use Rattle.spki_core.specs.Rsa.{bit_length}
use Rattle.spki_core.proofs.rsa.RsaKeyView.modulus_bits.Given as goal

abbrev pub invariant-zeros : goal.invariant-zeros
invariant-zeros l = bit_length l.octets ≡ bit_length l.fn.self.modulus.now

abbrev pub decreases-zeros : goal.decreases-zeros
decreases-zeros l = length l.octets
