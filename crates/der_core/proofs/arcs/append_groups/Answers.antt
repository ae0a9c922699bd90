use Rattle.std.proofs.Common.{refl}
use Rattle.der_core.proofs.OidWriting.{groups-one, groups-full}
use Rattle.der_core.proofs.arcs.append_groups.Goals as goal

pub returns-then-not-append_group-clause-full : goal.returns-then-not-append_group-clause-full
returns-then-not-append_group-clause-full c = groups-full c.args.out.now.items c.arcs.out.items c.args.arcs.now c.arcs.arc-index _ c.arcs-test.true refl c.arcs.invariant.0 c.if-not-append_group.ensures.full

pub arcs-preserved : goal.arcs-preserved
arcs-preserved c = (groups-one c.args.out.now.items c.arcs.out.items c.append_group.new.out.items c.args.arcs.now c.arcs.arc-index _ c.arcs-test.true refl c.arcs.invariant.0 c.if-not-append_group.ensures.ok, c.if-not-append_group.ensures.fits)
