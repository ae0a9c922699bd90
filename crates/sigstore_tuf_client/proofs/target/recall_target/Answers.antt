use Rattle.std.proofs.Common.{refl, ap, Ok}
use Rattle.sigstore_tuf_runs.specs.Target.{if_pinned}
use Rattle.sigstore_tuf_client.proofs.target.recall_target.Goals as goal

pub returns-in-Ok : goal.returns-in-Ok
returns-in-Ok g c = record { loaded = _; loads = rw c.in-Ok-Some.field-0-is at c.in-Ok-Some.ensures; result_is = ap (λ r. Ok (if_pinned c.in-Ok-Some.bytes r)) c.in-Ok.ensures }

pub returns-in-Err-check_file : goal.returns-in-Err-check_file
returns-in-Err-check_file g c =
    record { loaded = _; loads = rw c.in-Ok-Some.field-0-is at c.in-Ok-Some.ensures; result_is = ap (λ r. Ok (if_pinned c.in-Ok-Some.bytes r)) c.in-Err-check_file.ensures }

pub returns-in-Ok-None : goal.returns-in-Ok-None
returns-in-Ok-None g c = record { loaded = _; loads = rw c.in-Ok-None.field-0-is at c.in-Ok-None.ensures; result_is = refl }

pub returns-in-Err : goal.returns-in-Err
returns-in-Err g c = record { loaded = _; loads = c.in-Err.ensures; result_is = refl }
