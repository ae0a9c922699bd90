use Rattle.std.proofs.Common.{refl, arith}
use Rattle.log_tiles.proofs.Audited.{text_cause}
use Rattle.log_tiles.proofs.auditing.audited.Goals as goal

pub returns-in-Err : goal.returns-in-Err
returns-in-Err g c =
    record {
      since = record { same = refl; later = omega arith };
      joined = tt;
      refused = text_cause _ _ c.args.first.now c.args.second.now (g.T.TileSource.seen c.args.tiles.now)
          (g.T.TileSource.seen c.args.tiles.now) c.in-Err.e c.in-Err.ensures.err;
    }
