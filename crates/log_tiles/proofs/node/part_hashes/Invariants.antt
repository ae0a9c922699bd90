use Rattle.std.proofs.Common.{◌≡◌, ◌≤◌, map, take, length}
use Rattle.foundation.specs.Watched.{IfTold, Since}
use Rattle.log_tiles.specs.Reading.{AreRead, part_hash}
use Rattle.log_tiles.proofs.node.part_hashes.Given as goal

abbrev pub invariant-parts : goal.invariant-parts
invariant-parts g l = record {
  since : Since (g.T.TileSource.seen l.fn.tiles) (g.T.TileSource.seen l.tiles);
  read : AreRead (g.T.TileSource.seen l.tiles).told l.size l.read;
  hashes : IfTold (g.T.TileSource.seen l.fn.tiles).told (λ leaves. l.size ≤ length leaves
      → l.hashes ≡ map (part_hash leaves) (take l.part-index l.parts));
}
