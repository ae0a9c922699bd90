use Rattle.command_verify.proofs.RunFacts.{on_request}
use Rattle.command_verify.proofs.request.verify_request.Goals as goal

pub returns : goal.returns
returns g c = on_request _ _ _ _ _ _ _ _ _ c.default.ensures c.verify_from_root_by_rules.ensures
