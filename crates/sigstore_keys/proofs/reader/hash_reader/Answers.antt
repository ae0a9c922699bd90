use Rattle.std.proofs.Common.{rules, arith, refl, ◌++◌, [], take, length-append}
use Rattle.std.proofs.lemmas.Grind.{common_steps}
use Rattle.std.proofs.lemmas.List.{take-append-le}
use Rattle.sigstore_keys.proofs.Parts.{prepend_more}
use Rattle.sigstore_keys.proofs.Feeding.{fed_nothing, fed_more}
use Rattle.sigstore_keys.proofs.reader.hash_reader.Goals as goal

pub pieces-init : goal.pieces-init
pieces-init g c = ([], record { later = search rules; given = search rules; fed = fed_nothing _ g.met.H.HashUpdate.none _; taken = search rules })

pub returns-then-count-left : goal.returns-then-count-left
returns-then-count-left g c =
    let inv = c.pieces.invariant in
    let piece = take c.in-Ok.count c.read.new.buf in (
      inv.0 ++ piece,
      record {
        later = omega arith;
        given = prepend_more _ _ _ _ _ inv.1.given c.in-Ok.ensures.given;
        answer = simp length-append (grind (arith, common_steps, c.in-Ok.ensures.bound));
        fed = (inv.0, piece, refl, inv.1.fed);
      },
    )

pub pieces-preserved : goal.pieces-preserved
pieces-preserved g c =
    let inv = c.pieces.invariant in
    let within = c.in-Ok.ensures.bound.0 in
    let piece = take c.in-Ok.count c.read.new.buf in (
      inv.0 ++ piece,
      record {
        later = omega arith;
        given = prepend_more _ _ _ _ _ inv.1.given c.in-Ok.ensures.given;
        fed = fed_more _ g.met.H.HashUpdate.more _ _ _ _ _ inv.1.fed (rw take-append-le at c.update_each.ensures);
        taken = simp length-append (grind (arith, common_steps, c.in-Ok.ensures.bound));
      },
    )
