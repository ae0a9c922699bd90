use Rattle.std.proofs.Common.{refl, inr, sym, ◌∙◌}
use Rattle.sigstore_tuf_client.proofs.client.refetch.Goals as goal

pub returns-in-Ok : goal.returns-in-Ok
returns-in-Ok g c = inr (sym c.is_current.ensures ∙ c.if-is_current.false, (_, c.in-Ok.ensures, refl))

pub returns-in-Err : goal.returns-in-Err
returns-in-Err g c = inr (sym c.is_current.ensures ∙ c.if-is_current.false, (_, c.in-Err.ensures, refl))
