use Rattle.std.proofs.Common.{refl}
use Rattle.sigstore_judgement.specs.UnderRules.{trust_refused, verifier_refused, bundle_refused, judged}
use Rattle.sigstore_judgement.proofs.under.judge_bundle_by_rules.Goals as goal

pub returns-in-Err : goal.returns-in-Err
returns-in-Err g c = trust_refused _ c.in-Err.ensures.err refl refl

pub returns-in-Err-new : goal.returns-in-Err-new
returns-in-Err-new g c = verifier_refused _ _ c.in-Ok.ensures.ok c.in-Err-new.ensures.err refl refl

pub returns-in-Err-read_bundle : goal.returns-in-Err-read_bundle
returns-in-Err-read_bundle g c = bundle_refused _ _ _ c.in-Ok.ensures.ok c.in-Ok-new.ensures.kept c.in-Err-read_bundle.ensures.err refl refl

pub returns : goal.returns
returns g c =
    judged _ _ _ c.in-Ok.ensures.ok c.in-Ok-new.ensures.kept c.in-Ok-read_bundle.ensures.ok
    (rw (c.in-Ok-new.ensures.provider, c.in-Ok-new.ensures.armor) at c.verify_reader_by_rules-judged.ensures)
