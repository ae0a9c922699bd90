use Rattle.std.proofs.Common.{◌≡◌, drop}
use Rattle.der_numbers.specs.Numbers.{number_from}
use Rattle.der_numbers.proofs.number.number_in.Given as goal

abbrev pub invariant-octets : goal.invariant-octets
invariant-octets l = number_from 0 l.fn.octets ≡ number_from l.number (drop l.octet-index l.octets)
