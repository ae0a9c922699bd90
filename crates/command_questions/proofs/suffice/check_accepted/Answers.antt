use Rattle.command_questions.proofs.Sufficing.{both}
use Rattle.command_questions.proofs.suffice.check_accepted.Goals as goal

pub returns : goal.returns
returns c = both _ _ c.check_bundle-checked.result c.in_ok-check_chain.ensures c.check_bundle-checked.ensures
