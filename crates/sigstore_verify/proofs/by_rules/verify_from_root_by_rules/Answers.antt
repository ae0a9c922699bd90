use Rattle.std.proofs.Common.{refl, ap, Err}
use Rattle.sigstore_verify.specs.declared.by_rules.RulesFault.TheVariants.{Root}
use Rattle.sigstore_verify.specs.ByRules.{chain_refused, judged}
use Rattle.sigstore_verify.proofs.ByRulesPromise.{runs_promise}
use Rattle.sigstore_verify.proofs.by_rules.verify_from_root_by_rules.Goals as goal

pub returns-in-Err : goal.returns-in-Err
returns-in-Err g c = runs_promise _ _ _ _ (chain_refused _ c.in-Err.ensures.runs refl (ap (λ f. Err (Root f)) c.tuf_fault.ensures))

pub returns : goal.returns
returns g c = runs_promise _ _ _ _ (judged _ _ c.in-Ok.ensures.runs (rw c.as_bytes.ensures at c.judge_bundle_by_rules-judged.ensures) c.ruled.ensures)
