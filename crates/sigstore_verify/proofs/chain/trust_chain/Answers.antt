use Rattle.std.proofs.Common.{refl}
use Rattle.sigstore_verify.specs.FromRoot.{root_refused}
use Rattle.sigstore_verify.proofs.chain.trust_chain.Goals as goal

pub returns-in-Err : goal.returns-in-Err
returns-in-Err g c = root_refused _ c.in-Err.ensures.err refl refl refl

pub returns-in-Ok : goal.returns-in-Ok
returns-in-Ok g c = let j = c.in-Ok.ensures.judges in (rw (j.0, j.1) at c.chain_by-given.ensures) _ c.in-Ok.ensures.ok
