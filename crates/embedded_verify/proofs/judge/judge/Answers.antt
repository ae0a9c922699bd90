use Rattle.std.proofs.Common.{nat_lt, refl, ap}
use Rattle.embedded_verify.proofs.Judging.{promised, judged_as}
use Rattle.embedded_verify.proofs.judge.judge.Goals as goal

pub returns-in-Ok : goal.returns-in-Ok
returns-in-Ok g c =
    judged_as _ c.args.asked.now _ c.verify_request-judged.result _ _ _ _ c.is_ok-accepted.result c.in-Ok.said
    (promised _ c.args.asked.now _ c.verify_request-judged.result _ _ _ _ _ c.as_slice.ensures c.as_bytes.ensures c.as_bytes-2.ensures c.requires.repository c.requires.store c.verify_request-judged.ensures)
    refl refl refl c.is_ok-accepted.ensures.value (ap (nat_lt 1) c.len.ensures) c.in-Ok.ensures refl
