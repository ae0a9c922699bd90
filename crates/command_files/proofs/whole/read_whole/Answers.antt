use Rattle.std.proofs.Common.{arith, ◌++◌, take, length-append}
use Rattle.std.proofs.lemmas.Grind.{common_steps}
use Rattle.sigstore_keys.proofs.Parts.{prepend_more}
use Rattle.command_files.proofs.whole.read_whole.Goals as goal

pub returns-then-count-left : goal.returns-then-count-left
returns-then-count-left g c =
    let inv = c.pieces.invariant in
    let piece = take c.in-Ok.count c.read.new.buf in (
      c.pieces.bytes.items ++ piece,
      record {
        later = omega arith;
        given = prepend_more _ _ _ _ _ inv.given c.in-Ok.ensures.given;
        answer = simp length-append (grind (arith, common_steps, c.in-Ok.ensures.bound));
      },
    )

pub returns-then-is_err : goal.returns-then-is_err
returns-then-is_err g c =
    let inv = c.pieces.invariant in
    let piece = take c.in-Ok.count c.read.new.buf in (
      c.pieces.bytes.items ++ piece,
      record {
        later = omega arith;
        given = prepend_more _ _ _ _ _ inv.given c.in-Ok.ensures.given;
        answer = simp length-append (grind (arith, common_steps, c.in-Ok.ensures.bound));
      },
    )
