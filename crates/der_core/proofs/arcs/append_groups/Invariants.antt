use Rattle.std.proofs.Common.{◌≡◌, ◌<◌, ◌++◌, take, length}
use Rattle.der_core.specs.Oid.{groups_bytes}
use Rattle.der_core.proofs.arcs.append_groups.Given as goal

abbrev pub invariant-arcs : goal.invariant-arcs
invariant-arcs l = (l.out.items ≡ l.fn.out.items ++ groups_bytes (take l.arc-index l.arcs)) × (length l.out.items < 40)
