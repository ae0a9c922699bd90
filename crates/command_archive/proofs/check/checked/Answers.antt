use Rattle.std.proofs.Common.{refl}
use Rattle.sigstore_verify.specs.Inputs.{anchor_with}
use Rattle.command_archive.proofs.CheckSaying.{trusts_said, declines_said}
use Rattle.command_archive.proofs.check.checked.Goals as goal

pub returns-in-Ok : goal.returns-in-Ok
returns-in-Ok g c =
    trusts_said (anchor_with g.C.CryptoProvider g.M.Armor c.args.anchor.now) _ _ _ _ c.in-Ok.chain c.accepted-said.result c.in-Ok.ensures c.accepted-said.ensures

pub returns-in-Err : goal.returns-in-Err
returns-in-Err g c =
    declines_said (anchor_with g.C.CryptoProvider g.M.Armor c.args.anchor.now) _ _ _ _ c.in-Err.why c.declined.result c.in-Err.ensures refl c.declined.ensures
