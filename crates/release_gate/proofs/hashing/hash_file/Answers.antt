use Rattle.std.proofs.Common.{rules, arith, refl, ◌≡◌, ◌-◌, ◌++◌, [], length, take, length-append}
use Rattle.std.proofs.lemmas.Grind.{common_steps}
use Rattle.std.proofs.lemmas.List.{take-append-le}
use Rattle.sigstore_keys.proofs.Feeding.{fed_nothing, fed_more}
use Rattle.release_gate.specs.Given.{begun}
use Rattle.release_gate.proofs.Hashed.{gives_more, hashed_end, hashed_over, hashed_part}
use Rattle.release_gate.proofs.Sources.{prepend_nothing, next_given}
use Rattle.release_gate.proofs.Walking.{since_both}
use Rattle.release_gate.proofs.hashing.hash_file.Goals as goal

pub pieces-init : goal.pieces-init
pieces-init g c =
    record {
      since = record { same = refl; later = omega arith };
      bytes = [];
      taken = record { later = omega arith; given = prepend_nothing _; fed = fed_nothing _ g.met.H.HashUpdate.none _; taken = search rules };
      gives = begun;
    }

pub returns-in-Ok-eq0-clause-reads : goal.returns-in-Ok-eq0-clause-reads
returns-in-Ok-eq0-clause-reads g c =
    let inv = c.pieces.invariant in
    hashed_end _ _ _ _ g.D.Folder.seen g.met.D.Folder.answers _ _ _ _ _ _ c.args.max c.pieces.left inv.bytes c.read_at.new.buf inv.taken inv.gives c.in-Ok-eq0.field-0 (search rules) c.in-Ok-eq0.ensures.gave (grind (arith, common_steps))

pub returns-then-count-left-clause-reads : goal.returns-then-count-left-clause-reads
returns-then-count-left-clause-reads g c =
    let inv = c.pieces.invariant in
    hashed_over _ _ _ _ g.D.Folder.seen g.met.D.Folder.answers _ _ _ _ _ _ c.args.max c.pieces.left inv.bytes c.read_at.new.buf inv.taken inv.gives c.in-Ok.count c.in-Ok.ensures.gave (omega arith) (grind (arith, common_steps))

pub returns-in-Err-clause-reads : goal.returns-in-Err-clause-reads
returns-in-Err-clause-reads g c =
    let inv = c.pieces.invariant in
    hashed_part _ _ _ _ g.D.Folder.seen g.met.D.Folder.answers _ _ _ _ _ _ c.args.max c.pieces.left inv.bytes c.read_at.new.buf inv.taken inv.gives _ c.in-Err.ensures.gave

pub pieces-preserved : goal.pieces-preserved
pieces-preserved g c =
    let inv = c.pieces.invariant in
    let within = c.in-Ok.ensures.promise.bound.0 in
    let piece = take c.in-Ok.count c.read_at.new.buf in
    let full : length piece ≡ c.in-Ok.count = grind (arith, common_steps, c.in-Ok.ensures.promise.bound) in
    let at : c.args.max - c.pieces.left ≡ length inv.bytes = omega (arith, inv.taken.taken) in
    record {
      since = since_both _ _ _ inv.since c.read_at.ensures.promise.since;
      bytes = inv.bytes ++ piece;
      taken = record {
        later = (let one = inv.taken.later in let two = c.read_at.ensures.promise.since.later in omega arith);
        given = next_given _ _ _ c.args.name.now inv.bytes (c.args.max - c.pieces.left) c.in-Ok.count c.read_at.new.buf c.read_at.ensures.promise.since.same at full c.in-Ok.ensures.promise.given inv.taken.given;
        fed = fed_more _ g.met.H.HashUpdate.more _ _ _ _ _ inv.taken.fed (rw take-append-le at c.update_each.ensures);
        taken = simp length-append (grind (arith, common_steps, c.in-Ok.ensures.promise.bound));
      };
      gives = gives_more _ _ _ _ g.D.Folder.seen g.met.D.Folder.answers _ _ _ _ _ _ c.args.max c.pieces.left inv.bytes c.read_at.new.buf inv.taken inv.gives c.in-Ok.count c.in-Ok.ensures.gave;
    }
