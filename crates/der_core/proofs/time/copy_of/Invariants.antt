use Rattle.std.proofs.Common.{◌≡◌, take}
use Rattle.der_core.proofs.time.copy_of.Given as goal

abbrev pub invariant-octets : goal.invariant-octets
invariant-octets l = l.copy.items ≡ take l.octet-index l.contents
