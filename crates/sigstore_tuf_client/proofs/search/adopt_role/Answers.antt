use Rattle.std.proofs.Common.{refl, [], ◌∷◌}
use Rattle.sigstore_tuf_rules.specs.Names.{role_file}
use Rattle.sigstore_tuf_rules.proofs.RolePuts.{was_taken}
use Rattle.sigstore_tuf_client.proofs.RoleKept.{role_kept}
use Rattle.sigstore_tuf_runs.specs.Adopt.{unfetched, absent, refused, adopted}
use Rattle.sigstore_tuf_client.proofs.search.adopt_role.Goals as goal

pub returns-in-Ok-save_role : goal.returns-in-Ok-save_role
returns-in-Ok-save_role g c =
    let judged = was_taken _ _ _ _ c.in-Ok.ensures in
    adopted _ _ (rw c.in-Ok-Some.field-0-is at c.in-Ok-Some.ensures) judged (role_kept _ _ _ _ _ _ (role_file c.args.visit.now.name ∷ []) judged c.in-Ok-save_role.ensures) refl

pub returns-in-Err-save_role : goal.returns-in-Err-save_role
returns-in-Err-save_role g c =
    let judged = was_taken _ _ _ _ c.in-Ok.ensures in
    adopted _ _ (rw c.in-Ok-Some.field-0-is at c.in-Ok-Some.ensures) judged (role_kept _ _ _ _ _ _ (role_file c.args.visit.now.name ∷ []) judged c.in-Err-save_role.ensures) refl

pub returns-in-Err-take_role : goal.returns-in-Err-take_role
returns-in-Err-take_role g c =
    refused _ _ (rw c.in-Ok-Some.field-0-is at c.in-Ok-Some.ensures) c.in-Err-take_role.ensures.1 (record { documents = c.in-Err-take_role.ensures.0; store = refl }) refl

pub returns-in-Ok-None : goal.returns-in-Ok-None
returns-in-Ok-None g c = absent (rw c.in-Ok-None.field-0-is at c.in-Ok-None.ensures) (record { documents = refl; store = refl }) refl

pub returns-in-Err : goal.returns-in-Err
returns-in-Err g c = unfetched _ c.in-Err.ensures (record { documents = refl; store = refl }) refl
