use Rattle.std.proofs.Common.{map}
use Rattle.sigstore_policy.specs.Policy.{meaning_in}
use Rattle.sigstore_judgement.proofs.Needed.{those_hashed}
use Rattle.sigstore_judgement.proofs.rules.needed_by_rules.Goals as goal

pub returns-clause-hashed : goal.returns-clause-hashed
returns-clause-hashed c = those_hashed c.args.bundle.now (map meaning_in c.args.rules.now) c.all_needed.result c.all_needed.ensures
