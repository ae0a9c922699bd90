use Rattle.sigstore_verify.proofs.ByRulesPromise.{one_rule_alone}
use Rattle.sigstore_verify.proofs.laws.one_rule_alone.Goals as goal

pub returns : goal.returns
returns c = one_rule_alone
