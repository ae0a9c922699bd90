use Rattle.std.proofs.Common.{◌≤◌, ◌+◌, length}
use Rattle.der_core.proofs.OidReading.{LaterOn}
use Rattle.der_core.proofs.arcs.append_later.Given as goal

abbrev pub invariant-groups : goal.invariant-groups
invariant-groups l = LaterOn l.fn.arcs.items l.arcs.items l.rest l.fn.bytes × (length l.rest + length l.arcs.items ≤ 40)

abbrev pub decreases-groups : goal.decreases-groups
decreases-groups l = length l.rest
