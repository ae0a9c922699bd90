use Rattle.std.proofs.Common.{◌≡◌, ◌≤◌, length}
use Rattle.der_core.specs.Oid.{group_at}
use Rattle.der_core.proofs.Groups.{group_after, greatest}
use Rattle.der_core.proofs.arcs.group.Given as goal

-- what is left decides, after the octets that were read
abbrev pub invariant-octets : goal.invariant-octets
invariant-octets l = record {
  left : group_at l.bytes ≡ group_after l.count l.number l.rest;
  bound : l.number ≤ greatest l.count;
  small : l.number ≤ 34359738367;
  shorter : length l.rest ≤ length l.bytes;
}
