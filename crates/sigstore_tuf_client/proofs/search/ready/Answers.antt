use Rattle.std.proofs.Common.{refl, sym, ◌∙◌}
use Rattle.sigstore_tuf_runs.specs.Search.{had}
use Rattle.sigstore_tuf_rules.proofs.RolePuts.{not_held}
use Rattle.sigstore_tuf_client.proofs.search.ready.Goals as goal

pub returns-in-Ok : goal.returns-in-Ok
returns-in-Ok g c = λ walk allowed. had _ (sym (c.in-Ok-true.ensures walk allowed) ∙ c.in-Ok-true.field-0-test) (not_held _ _ c.if-is_some.ensures (rw c.as_str.ensures at c.get.ensures)) c.in-Ok.ensures refl

pub returns-in-Err-adopt_role : goal.returns-in-Err-adopt_role
returns-in-Err-adopt_role g c = λ walk allowed.
    had _ (sym (c.in-Ok-true.ensures walk allowed) ∙ c.in-Ok-true.field-0-test) (not_held _ _ c.if-is_some.ensures (rw c.as_str.ensures at c.get.ensures)) c.in-Err-adopt_role.ensures refl
