use Rattle.std.proofs.Common.{◌≡◌, ◌≤◌, ◌+◌, ◌++◌, take, length}
use Rattle.der_core.proofs.arcs.append_octets.Given as goal

abbrev pub invariant-octets : goal.invariant-octets
invariant-octets l = (l.out.items ≡ l.fn.out.items ++ take l.octet-index l.octets) × (length l.fn.out.items + length l.octets ≤ 39)
