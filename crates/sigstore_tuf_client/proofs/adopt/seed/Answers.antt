use Rattle.std.proofs.Common.{refl}
use Rattle.sigstore_tuf_runs.specs.Adopt.{unloaded, unkept, unseeded}
use Rattle.sigstore_tuf_runs.proofs.Steps.{seed_taken}
use Rattle.sigstore_tuf_client.proofs.adopt.seed.Goals as goal

pub returns-in-Ok : goal.returns-in-Ok
returns-in-Ok g c = λ repo.
    seed_taken _ c.args.kind c.args.now c.args.documents.now c.take.new.documents repo _ _ _ _ (rw c.in-Ok-Some.field-0-is at c.in-Ok-Some.ensures) c.in-Ok.ensures

pub returns-in-Err-take : goal.returns-in-Err-take
returns-in-Err-take g c = λ repo.
    unseeded _ _ (rw c.in-Ok-Some.field-0-is at c.in-Ok-Some.ensures) c.in-Err-take.ensures.1 (record { documents = c.in-Err-take.ensures.0; repo = refl }) c.pass_over.ensures

pub returns-in-Ok-None : goal.returns-in-Ok-None
returns-in-Ok-None g c = λ repo. unkept (rw c.in-Ok-None.field-0-is at c.in-Ok-None.ensures) (record { documents = refl; repo = refl }) refl

pub returns-in-Err : goal.returns-in-Err
returns-in-Err g c = λ repo. unloaded _ c.in-Err.ensures (record { documents = refl; repo = refl }) refl
