use Rattle.std.proofs.Common.{refl}
use Rattle.sigstore_tuf_runs.specs.State.{session_by}
use Rattle.sigstore_tuf_runs.specs.Adopt.{unfetched, absent, refused, kept, adopted}
use Rattle.sigstore_tuf_runs.proofs.Steps.{kept_put}
use Rattle.sigstore_tuf_client.proofs.adopt.adopt.Goals as goal

pub returns-in-Ok : goal.returns-in-Ok
returns-in-Ok g c =
    let judged = rw c.in-Ok-true.field-0-test at c.in-Ok-true.ensures in
    adopted _ _ (rw c.in-Ok-Some.field-0-is at c.in-Ok-Some.ensures) judged (kept_put (session_by g.C.CryptoProvider g.M.Armor c.args.session.now) c.args.kind _ _ _ judged c.in-Ok.ensures) refl

pub returns-in-Err-save_in_force : goal.returns-in-Err-save_in_force
returns-in-Err-save_in_force g c =
    let judged = rw c.in-Ok-true.field-0-test at c.in-Ok-true.ensures in
    adopted _ _ (rw c.in-Ok-Some.field-0-is at c.in-Ok-Some.ensures) judged (kept_put (session_by g.C.CryptoProvider g.M.Armor c.args.session.now) c.args.kind _ _ _ judged c.in-Err-save_in_force.ensures) refl

pub returns-in-Ok-false : goal.returns-in-Ok-false
returns-in-Ok-false g c =
    let t = rw c.in-Ok-false.field-0-test at c.in-Ok-false.ensures in
    kept _ (rw c.in-Ok-Some.field-0-is at c.in-Ok-Some.ensures) t.0 (record { documents = t.1; store = refl }) refl

pub returns-in-Err-take : goal.returns-in-Err-take
returns-in-Err-take g c =
    refused _ _ (rw c.in-Ok-Some.field-0-is at c.in-Ok-Some.ensures) c.in-Err-take.ensures.1 (record { documents = c.in-Err-take.ensures.0; store = refl }) refl

pub returns-in-Ok-None : goal.returns-in-Ok-None
returns-in-Ok-None g c = absent (rw c.in-Ok-None.field-0-is at c.in-Ok-None.ensures) (record { documents = refl; store = refl }) c.absence.ensures

pub returns-in-Err : goal.returns-in-Err
returns-in-Err g c = unfetched _ c.in-Err.ensures (record { documents = refl; store = refl }) refl
