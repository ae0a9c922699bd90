use Rattle.std.proofs.Common.{arith}
use Rattle.log_tiles.proofs.Halves.{place_inside, placed_ok, halves_ok, left_failed, right_failed}
use Rattle.log_tiles.proofs.node.+node.Goals as goal

pub in_tile-requires-clause-place : goal.in_tile-requires-clause-place
in_tile-requires-clause-place g t c =
    place_inside c.args.size c.args.part c.place_of-place.result c.requires.part c.place_of-place.ensures
    (omega (arith, c.place_of-place.ensures.at))

pub returns-in-Ok-node-clause-hash : goal.returns-in-Ok-node-clause-hash
returns-in-Ok-node-clause-hash g t c =
    rw c.hash_node.ensures
    (halves_ok c.args.size _ _ _ c.args.part _ _ _ _ c.halves.ensures c.requires.part c.in-Ok.ensures.hash c.in-Ok-node.ensures.hash)

pub returns-in-Err-clause-hash : goal.returns-in-Err-clause-hash
returns-in-Err-clause-hash g t c =
    left_failed c.args.size _ _ c.args.part _ _ c.place_of-place.result c.in-Err.e c.place_of-place.ensures
    (omega (arith, c.place_of-place.ensures.at)) c.halves.ensures c.in-Err.ensures.hash

pub returns-in-Err-node-clause-hash : goal.returns-in-Err-node-clause-hash
returns-in-Err-node-clause-hash g t c =
    right_failed c.args.size _ _ _ c.args.part _ _ c.place_of-place.result _ c.in-Err-node.e c.place_of-place.ensures
    (omega (arith, c.place_of-place.ensures.at)) c.halves.ensures c.in-Ok.ensures.hash c.in-Err-node.ensures.hash

pub returns-then-place-clause-hash : goal.returns-then-place-clause-hash
returns-then-place-clause-hash g t c =
    placed_ok c.args.size _ _ c.args.part c.place_of-place.result c.in_tile.result c.place_of-place.ensures
    (omega (arith, c.place_of-place.ensures.at)) c.in_tile.ensures.hash
