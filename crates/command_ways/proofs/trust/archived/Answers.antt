use Rattle.std.proofs.Common.{subst}
use Rattle.sigstore_verify.specs.Inputs.{anchor_with}
use Rattle.command_files.proofs.Wholes.{whole_read}
use Rattle.command_ways.specs.Trust.{IsHeld, read}
use Rattle.command_ways.proofs.trust.archived.Goals as goal

pub returns-in-Ok : goal.returns-in-Ok
returns-in-Ok g c =
    read c.in-Ok.bytes (whole_read _ _ _ c.in-Ok.bytes c.in-Ok.ensures)
    (subst (λ b. IsHeld (anchor_with g.C.CryptoProvider g.M.Armor c.args.anchor.now) b c.held-held.result) c.as_bytes.ensures c.held-held.ensures)
