use Rattle.log_tiles.proofs.Octets.{written_none, written_more}
use Rattle.log_tiles.proofs.memory_tiles.tile_octets.Goals as goal

pub runs-init : goal.runs-init
runs-init c = written_none c.args.run c.args.leaves.now c.new-octets.result.items c.new-octets.ensures.items

pub runs-preserved : goal.runs-preserved
runs-preserved c =
    written_more c.runs.counter c.args.run c.args.leaves.now c.runs.rest.now _ _ c.runs.octets.items _ c.tree_hash.result c.runs.invariant
    c.split_at.ensures.front c.split_at.ensures.back c.tree_hash.ensures c.in_ok-add_hash.ensures.added c.in_ok-add_hash.ensures.count
