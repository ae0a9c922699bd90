use Rattle.std.proofs.Common.{refl}
use Rattle.sigstore_verify.specs.FromRoot.{attach_refused, refresh_refused, target_refused, chain_given}
use Rattle.sigstore_verify.proofs.chain.chain_by.Goals as goal

pub returns-in-Err : goal.returns-in-Err
returns-in-Err g c root h = attach_refused _ _ _ h (c.in-Err.ensures.attached _) refl refl

pub returns-in-Err-refresh_parts : goal.returns-in-Err-refresh_parts
returns-in-Err-refresh_parts g c root h =
    let j = c.in_default.ensures.judges in
    refresh_refused _ _ _ _ (record { first = _; first_is = h; attached = c.in_default.ensures.attached _ }) (rw (j.0, j.1) at c.in-Err-refresh_parts.ensures.refreshed) refl

pub returns-in-Err-get_target_parts : goal.returns-in-Err-get_target_parts
returns-in-Err-get_target_parts g c root h =
    let j = c.in_default.ensures.judges in
    let k = c.in_default-refresh_parts.ensures.judges in
    target_refused _ _ _ _ _ _ _ (record { first = _; first_is = h; attached = c.in_default.ensures.attached _ }) (rw (j.0, j.1) at c.in_default-refresh_parts.ensures.refreshed)
    (rw (k.0, k.1, j.0, j.1) at c.in-Err-get_target_parts.ensures.got) refl

pub returns-in-Ok : goal.returns-in-Ok
returns-in-Ok g c root h =
    let j = c.in_default.ensures.judges in
    let k = c.in_default-refresh_parts.ensures.judges in
    chain_given _ _ _ _ _ _ _ (record { first = _; first_is = h; attached = c.in_default.ensures.attached _ }) (rw (j.0, j.1) at c.in_default-refresh_parts.ensures.refreshed)
    (rw (k.0, k.1, j.0, j.1) at c.in-Ok.ensures.got) refl
