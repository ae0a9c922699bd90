use Rattle.std.proofs.Common.{refl}
use Rattle.sigstore_tuf_runs.specs.Chain.{unfound, visited}
use Rattle.sigstore_tuf_client.proofs.target.find_chain.Goals as goal

pub returns-in-Ok : goal.returns-in-Ok
returns-in-Ok g c = visited _ _ c.in-Ok.ensures (rw c.as_slice.ensures at c.chain_after.ensures)

pub returns-in-Err : goal.returns-in-Err
returns-in-Err g c = unfound _ c.in-Err.ensures refl
