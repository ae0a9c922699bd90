use Rattle.std.proofs.Common.{Ok, Err, refl}
use Rattle.release_gate.proofs.Gating.{tuf_refused, trust_refused, folder_refused, folder_judged}
use Rattle.release_gate.proofs.Admissions.{admits_on}
use Rattle.release_gate.proofs.Rested.{tuf_rests, trust_rests, folder_rests}
use Rattle.release_gate.proofs.gate.gate_from_root.Goals as goal

pub returns-in-Err-clause-promises : goal.returns-in-Err-clause-promises
returns-in-Err-clause-promises g c = tuf_refused _ _ _ _ _ c.in-Err.ensures refl c.fault_of_tuf.ensures

pub returns-in-Err-verifier_over-clause-promises : goal.returns-in-Err-verifier_over-clause-promises
returns-in-Err-verifier_over-clause-promises g c = trust_refused _ _ _ _ _ _ c.in-Ok.ensures (rw c.as_bytes.ensures at c.in-Err-verifier_over.ensures.err) refl c.fault_of_trust.ensures

pub returns-in-Ok-judge_under-clause-promises : goal.returns-in-Ok-judge_under-clause-promises
returns-in-Ok-judge_under-clause-promises g c =
    folder_judged _ _ _ _ _ c.in-Ok.ensures (rw c.as_bytes.ensures at c.in-Ok-verifier_over.ensures.kept) _
    (rw (c.in-Ok-verifier_over.ensures.provider, c.in-Ok-verifier_over.ensures.armor) at c.in-Ok-judge_under.ensures.judges)

pub returns-in-Err-judge_under-clause-promises : goal.returns-in-Err-judge_under-clause-promises
returns-in-Err-judge_under-clause-promises g c =
    folder_refused _ _ _ _ _ c.in-Ok.ensures (rw c.as_bytes.ensures at c.in-Ok-verifier_over.ensures.kept) _
    (rw (c.in-Ok-verifier_over.ensures.provider, c.in-Ok-verifier_over.ensures.armor) at c.in-Err-judge_under.ensures.judges)

pub returns-in-Err-clause-rests : goal.returns-in-Err-clause-rests
returns-in-Err-clause-rests g c = tuf_rests _ _ _ _ _ _ _ c.fault_of_tuf.ensures refl

pub returns-in-Err-verifier_over-clause-rests : goal.returns-in-Err-verifier_over-clause-rests
returns-in-Err-verifier_over-clause-rests g c = trust_rests _ _ _ _ _ _ _ _ c.fault_of_trust.ensures refl

pub returns-in-Ok-judge_under-clause-rests : goal.returns-in-Ok-judge_under-clause-rests
returns-in-Ok-judge_under-clause-rests g c =
    folder_rests _ _ _ _ _ _ _ (Ok c.in-Ok-judge_under.lines) c.in-Ok.ensures.accepted (rw c.as_bytes.ensures at c.in-Ok-verifier_over.ensures.kept)
    (rw (c.in-Ok-verifier_over.ensures.provider, c.in-Ok-verifier_over.ensures.armor) at c.in-Ok-judge_under.ensures.walks)

pub returns-in-Err-judge_under-clause-rests : goal.returns-in-Err-judge_under-clause-rests
returns-in-Err-judge_under-clause-rests g c =
    folder_rests _ _ _ _ _ _ _ (Err c.in-Err-judge_under.e) c.in-Ok.ensures.accepted (rw c.as_bytes.ensures at c.in-Ok-verifier_over.ensures.kept)
    (rw (c.in-Ok-verifier_over.ensures.provider, c.in-Ok-verifier_over.ensures.armor) at c.in-Err-judge_under.ensures.walks)

pub returns-in-Ok-judge_under-clause-admitted : goal.returns-in-Ok-judge_under-clause-admitted
returns-in-Ok-judge_under-clause-admitted g c =
    admits_on _ _ _ _ _ (Ok (record { chain = c.in-Ok.chain; lines = c.in-Ok-judge_under.lines })) (folder_rests _ _ _ _ _ _ _ (Ok c.in-Ok-judge_under.lines) c.in-Ok.ensures.accepted (rw c.as_bytes.ensures at c.in-Ok-verifier_over.ensures.kept)
    (rw (c.in-Ok-verifier_over.ensures.provider, c.in-Ok-verifier_over.ensures.armor) at c.in-Ok-judge_under.ensures.walks))
