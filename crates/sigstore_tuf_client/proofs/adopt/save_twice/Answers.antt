use Rattle.std.proofs.Common.{inl, inr, refl}
use Rattle.sigstore_tuf_client.proofs.adopt.save_twice.Goals as goal

pub returns-in-Ok-save : goal.returns-in-Ok-save
returns-in-Ok-save g c = inr (_, c.in-Ok.ensures, inr (_, c.in-Ok-save.ensures, (refl, refl)))

pub returns-in-Err-save : goal.returns-in-Err-save
returns-in-Err-save g c = inr (_, c.in-Ok.ensures, inl (_, c.in-Err-save.ensures, refl))

pub returns-in-Err : goal.returns-in-Err
returns-in-Err g c = inl (_, c.in-Err.ensures, refl)
