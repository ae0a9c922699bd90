use Rattle.sigstore_tuf_runs.specs.State.{session_by}
use Rattle.sigstore_tuf_runs.proofs.Steps.{none_there, reseeded}
use Rattle.sigstore_tuf_client.proofs.client.reseed.Goals as goal

pub returns-in-Ok : goal.returns-in-Ok
returns-in-Ok g c = λ repo.
    reseeded (session_by g.C.CryptoProvider g.M.Armor c.args.session.now) c.args.kind c.moment-now.result _ _ _ (none_there _ _ c.bytes_in.ensures c.if-is_some.ensures) c.moment-now.ensures (c.in-Ok.ensures repo)

pub returns-in-Err : goal.returns-in-Err
returns-in-Err g c = λ repo.
    reseeded (session_by g.C.CryptoProvider g.M.Armor c.args.session.now) c.args.kind c.moment-now.result _ _ _ (none_there _ _ c.bytes_in.ensures c.if-is_some.ensures) c.moment-now.ensures (c.in-Err.ensures repo)
