use Rattle.command_files.proofs.RuleFacts.{has_a_rule, has_few_rules}
use Rattle.command_files.proofs.laws.rules_are_few.Goals as goal

pub returns-clause-some : goal.returns-clause-some
returns-clause-some c = has_a_rule

pub returns-clause-few : goal.returns-clause-few
returns-clause-few c = has_few_rules
