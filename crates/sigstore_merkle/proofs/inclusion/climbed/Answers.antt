use Rattle.std.proofs.Common.{◌≡◌, ◌<◌, ◌^◌, arith, sym, ◌∙◌}
use Rattle.sigstore_merkle.proofs.Roots.{length_of}
use Rattle.sigstore_merkle.proofs.Ways.{climbing_start, climbing_more, climbing_some, climbing_none, climbing_end}
use Rattle.sigstore_merkle.proofs.inclusion.climbed.Goals as goal
use Rattle.sigstore_merkle.proofs.inclusion.climbed.Goals.{in-Some, in_default}

pub levels-init : goal.levels-init
levels-init c = rw c.copied-computed.ensures (climbing_start _ _ _ _ c.requires.inside)

pub offset_bounds-hashes-next : goal.offset_bounds-hashes-next
offset_bounds-hashes-next c =
    let fits : c.levels.last < 2 ^ 64 = omega arith in
    let shape = length_of c.args.index c.args.size c.args.hashes.now c.requires.inside c.ranges.size.fits c.requires.fits in
    let more = climbing_more _ _ _ _ _ _ _ _ _ c.levels.invariant fits shape (sym c.side_at.ensures ∙ c.in-Some.is) in
    omega arith

pub bounds-hashes-next : goal.bounds-hashes-next
bounds-hashes-next c =
    let fits : c.levels.last < 2 ^ 64 = omega arith in
    let shape = length_of c.args.index c.args.size c.args.hashes.now c.requires.inside c.ranges.size.fits c.requires.fits in
    let more = climbing_more _ _ _ _ _ _ _ _ _ c.levels.invariant fits shape (sym c.side_at.ensures ∙ c.in-Some.is) in
    more.0

pub overflow_add-next : goal.overflow_add-next
overflow_add-next c =
    let fits : c.levels.last < 2 ^ 64 = omega arith in
    let shape = length_of c.args.index c.args.size c.args.hashes.now c.requires.inside c.ranges.size.fits c.requires.fits in
    let more = climbing_more _ _ _ _ _ _ _ _ _ c.levels.invariant fits shape (sym c.side_at.ensures ∙ c.in-Some.is) in
    omega arith

pub levels-preserved : goal.levels-preserved
levels-preserved c =
    let fits : c.levels.last < 2 ^ 64 = omega arith in
    let shape = length_of c.args.index c.args.size c.args.hashes.now c.requires.inside c.ranges.size.fits c.requires.fits in
    elim c.match-side_at.branch [
      | in-Some w ↦ rw (w.computed-is, w.next-is, w.node_at-computed.ensures, w.index-hashes-next.is)
          (climbing_some _ _ _ _ _ _ _ _ w.in-Some.side _ c.levels.invariant fits shape (sym c.side_at.ensures ∙ w.in-Some.is))
      | in_default w ↦ rw (w.computed-is, w.next-is)
          (climbing_none _ _ _ _ _ _ _ _ c.levels.invariant fits (sym c.side_at.ensures ∙ w.in_default.is))
    ]

pub returns : goal.returns
returns c =
    let shape = length_of c.args.index c.args.size c.args.hashes.now c.requires.inside c.ranges.size.fits c.requires.fits in
    let done : c.levels.last ≡ 0 = omega arith in
    climbing_end _ _ _ _ _ _ _ _ c.levels.invariant done c.requires.inside c.ranges.size.fits shape
