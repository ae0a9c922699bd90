use Rattle.std.proofs.lemmas.Result.{err_from_is_err_and}
use Rattle.log_tiles.proofs.Served.{proof_made, proof_failed}
use Rattle.log_tiles.proofs.proving.growth_proof.Goals as goal

pub returns : goal.returns
returns g c =
    record {
      since = c.part_hashes.ensures.since;
      given =
          proof_made _ _ _ _ c.in_ok-parts.parts _ _ c.in_ok-hashes.hashes c.requires c.in_ok-parts.ensures c.as_slice.ensures
          c.into_vec.ensures
          c.in_ok-hashes.ensures;
      refused = tt;
    }

pub returns-in_err-hashes : goal.returns-in_err-hashes
returns-in_err-hashes g c =
    let p = err_from_is_err_and c.from_residual-in_err-hashes.result c.from_residual-in_err-hashes.ensures.1 in
    rw (p.1, p.2)
    (proof_failed _ _ _ _ c.in_ok-parts.parts _ _ c.in_err-hashes.field-0.0 c.in_ok-parts.ensures c.as_slice.ensures c.in_err-hashes.ensures)
