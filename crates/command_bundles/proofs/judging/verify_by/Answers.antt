use Rattle.sigstore_verify.specs.Inputs.{anchor_with}
use Rattle.command_bundles.specs.Judging.{inputs_with}
use Rattle.command_bundles.proofs.Saying.{came_by_way}
use Rattle.command_bundles.proofs.judging.verify_by.Goals as goal

pub returns-in-Ok : goal.returns-in-Ok
returns-in-Ok g c =
    came_by_way (inputs_with (anchor_with g.C.CryptoProvider g.M.Armor c.args.anchor.now) c.args.asked.now) c.args.way _ _ c.in-Ok.trust c.in-Ok.ensures
    c.judge_under.result c.judge_under.ensures
