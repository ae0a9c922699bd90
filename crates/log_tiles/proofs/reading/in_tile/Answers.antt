use Rattle.log_tiles.proofs.Found.{found_there, kept_there, enough, read_since}
use Rattle.log_tiles.proofs.reading.in_tile.Goals as goal

pub hash_in-requires-clause-within : goal.hash_in-requires-clause-within
hash_in-requires-clause-within g c =
    enough (g.T.TileSource.seen c.args.tiles.now).told c.args.size c.in-Some.tile.now c.args.place.now
    (c.in-Some.ensures.among _ _ c.requires.read)
    c.in-Some.ensures.level c.in-Some.ensures.index c.requires.place

pub returns-in-Some-clause-hash : goal.returns-in-Some-clause-hash
returns-in-Some-clause-hash g c =
    found_there c.args.size (g.T.TileSource.seen c.args.tiles.now) c.in-Some.tile.now c.args.place.now c.hash_in.result
    (c.in-Some.ensures.among _ _ c.requires.read) c.in-Some.ensures.level c.in-Some.ensures.index c.requires.place c.hash_in.ensures

pub returns-in-Ok-clause-read : goal.returns-in-Ok-clause-read
returns-in-Ok-clause-read g c =
    c.keep.ensures.kept _ _ (read_since _ _ c.args.size c.args.read.now c.in-Ok.ensures.since c.requires.read) c.in-Ok.ensures.read

pub returns-in-Ok-clause-hash : goal.returns-in-Ok-clause-hash
returns-in-Ok-clause-hash g c =
    kept_there c.args.size _ _ c.in-Ok.tile c.args.place.now c.keep.result c.in-Ok.ensures.since c.in-Ok.ensures.read
    c.in-Ok.ensures.same_level
    c.in-Ok.ensures.same_index c.requires.place c.keep.ensures.hash c.keep.ensures.want
