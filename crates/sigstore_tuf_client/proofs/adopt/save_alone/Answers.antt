use Rattle.std.proofs.Common.{inl, inr, refl}
use Rattle.sigstore_tuf_client.proofs.adopt.save_alone.Goals as goal

pub returns-in-Ok : goal.returns-in-Ok
returns-in-Ok g c = inr (_, c.in-Ok.ensures, (refl, refl))

pub returns-in-Err : goal.returns-in-Err
returns-in-Err g c = inl (_, c.in-Err.ensures, refl)
