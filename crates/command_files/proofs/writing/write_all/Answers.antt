use Rattle.std.proofs.Common.{arith}
use Rattle.command_files.proofs.Pieces.{append_more}
use Rattle.command_files.proofs.writing.write_all.Goals as goal

pub pieces-preserved : goal.pieces-preserved
pieces-preserved g c =
    let inv = c.pieces.invariant in
    record {
      within = omega (arith, c.in-Ok.ensures.bound, c.split_at.ensures.back_len);
      later = omega arith;
      taken = append_more _ _ _ c.args.text.now _ c.pieces.at c.in-Ok.count inv.taken c.split_at.ensures.back c.in-Ok.ensures.taken;
    }
