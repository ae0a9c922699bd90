use Rattle.std.proofs.Common.{refl}
use Rattle.sigstore_tuf_runs.specs.Chain.{unlisted, unobtained, unchained, found}
use Rattle.sigstore_tuf_client.proofs.target.chain_after.Goals as goal

pub returns-in-Ok-chain : goal.returns-in-Ok-chain
returns-in-Ok-chain g c = found _ _ _ c.in-Ok.ensures.ok (rw c.is_consistent.ensures at c.in-Ok-obtain.ensures) refl c.in-Ok-chain.ensures.ok refl

pub returns-in-Err-chain : goal.returns-in-Err-chain
returns-in-Err-chain g c = unchained _ _ _ c.in-Ok.ensures.ok (rw c.is_consistent.ensures at c.in-Ok-obtain.ensures) refl c.in-Err-chain.ensures.err refl

pub returns-in-Err-obtain : goal.returns-in-Err-obtain
returns-in-Err-obtain g c = unobtained _ _ c.in-Ok.ensures.ok (rw c.is_consistent.ensures at c.in-Err-obtain.ensures) refl refl

pub returns-in-Err : goal.returns-in-Err
returns-in-Err g c = unlisted _ c.in-Err.ensures.err refl refl
