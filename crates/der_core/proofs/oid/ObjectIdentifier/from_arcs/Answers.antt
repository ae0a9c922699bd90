use Rattle.std.proofs.Common.{arith}
use Rattle.der_core.proofs.OidLaws.{below_from_each, oid_means}
use Rattle.der_core.proofs.oid.ObjectIdentifier.from_arcs.Goals as goal

pub invariant_of-result : goal.invariant_of-result
invariant_of-result c = (oid_means c.args.arcs.now c.in_ok-contents_of.field-0.items (below_from_each 4294967296 c.args.arcs.now (omega arith) (λ i. omega (arith, c.type_inv.arcs i))) c.in_ok-contents_of.ensures.ok).0

pub returns-clause-same : goal.returns-clause-same
returns-clause-same c = (oid_means c.args.arcs.now c.in_ok-contents_of.field-0.items (below_from_each 4294967296 c.args.arcs.now (omega arith) (λ i. omega (arith, c.type_inv.arcs i))) c.in_ok-contents_of.ensures.ok).1
