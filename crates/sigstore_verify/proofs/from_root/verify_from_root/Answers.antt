use Rattle.std.proofs.Common.{refl, ap, Err}
use Rattle.sigstore_verify.specs.FromRoot.{chain_refused, judgement_refused, accepted}
use Rattle.sigstore_verify.proofs.RootFacts.{is_accepted}
use Rattle.sigstore_verify.proofs.RootCauses.{runs_cause}
use Rattle.sigstore_verify.proofs.RootCompleting.{runs_complete}
use Rattle.sigstore_verify.proofs.from_root.verify_from_root.Goals as goal

pub returns-in-Err : goal.returns-in-Err
returns-in-Err g c =
    let runs = chain_refused _ c.in-Err.ensures.runs refl (ap Err c.tuf_fault.ensures) in
    record { accepted = tt; refused = runs_cause _ _ _ _ runs; runs = runs; complete = runs_complete _ _ _ _ runs; stored = tt }

pub returns-in-Err-judge_bundle : goal.returns-in-Err-judge_bundle
returns-in-Err-judge_bundle g c =
    let runs = judgement_refused _ _ c.in-Ok.ensures.runs (rw c.as_bytes.ensures at c.in-Err-judge_bundle.ensures) (ap Err c.verify_fault.ensures) in
    record { accepted = tt; refused = runs_cause _ _ _ _ runs; runs = runs; complete = runs_complete _ _ _ _ runs; stored = tt }

pub returns-in-Ok-judge_bundle : goal.returns-in-Ok-judge_bundle
returns-in-Ok-judge_bundle g c =
    let runs = accepted _ c.in-Ok.ensures.runs (rw c.as_bytes.ensures at c.in-Ok-judge_bundle.ensures) refl in
    record {
      accepted = is_accepted _ _ _ _ c.in-Ok.ensures.accepted (rw c.as_bytes.ensures at c.in-Ok-judge_bundle.ensures);
      refused = tt;
      runs = runs;
      complete = runs_complete _ _ _ _ runs;
      stored = c.in-Ok.ensures.stored;
    }
