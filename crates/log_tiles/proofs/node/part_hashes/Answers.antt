use Rattle.std.proofs.Common.{rules}
use Rattle.std.proofs.lemmas.Result.{err_from_is_err_and}
use Rattle.log_tiles.proofs.Halves.{part_failed}
use Rattle.log_tiles.proofs.node.part_hashes.Goals as goal

pub returns-in_err-hash : goal.returns-in_err-hash
returns-in_err-hash g c =
    let p = err_from_is_err_and c.from_residual.result c.from_residual.ensures.1 in
    rw (p.1, p.2)
    (part_failed c.args.size _ _ _ c.args.parts.now c.parts.part-index _ c.in_err-hash.field-0.0 c.parts-test.true
    (search rules) c.parts.invariant.since c.in_err-hash.ensures.hash)
