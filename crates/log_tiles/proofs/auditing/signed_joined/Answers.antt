use Rattle.std.proofs.Common.{refl, arith}
use Rattle.log_tiles.proofs.Audited.{signed_cause}
use Rattle.log_tiles.proofs.auditing.signed_joined.Goals as goal

pub returns-in-Err : goal.returns-in-Err
returns-in-Err g c =
    record {
      since = record { same = refl; later = omega arith };
      joined = tt;
      refused = signed_cause _ _ c.args.older.now c.args.newer.now (g.T.TileSource.seen c.args.tiles.now)
          (g.T.TileSource.seen c.args.tiles.now) c.in-Err.e c.in-Err.ensures.err;
    }
