use Rattle.sigstore_judgement.proofs.RulesCompleting.{one_rule}
use Rattle.sigstore_judgement.proofs.laws.one_rule.Goals as goal

pub returns : goal.returns
returns c = one_rule
