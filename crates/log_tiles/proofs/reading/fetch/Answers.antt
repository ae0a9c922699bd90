use Rattle.log_tiles.proofs.Fetched.{fetched_some, fetched_none, place_some}
use Rattle.log_tiles.proofs.reading.fetch.Goals as goal

pub returns-in-Ok-Some : goal.returns-in-Ok-Some
returns-in-Ok-Some g c =
    fetched_some _ _ _ _ _ _ c.in-Ok-Some.tile c.read_tile.result (rw c.in-Ok-Some.field-0-is at c.in-Ok-Some.ensures)
    c.width_in-width.ensures
    (place_some _ c.args.place.now c.requires) c.read_tile.ensures.level c.read_tile.ensures.index c.read_tile.ensures.hashes
    c.read_tile.ensures.refused

pub returns-in-Ok-None : goal.returns-in-Ok-None
returns-in-Ok-None g c =
    fetched_none _ c.args.place.now _ _ _ (rw c.in-Ok-None.field-0-is at c.in-Ok-None.ensures) c.width_in-width.ensures c.requires
