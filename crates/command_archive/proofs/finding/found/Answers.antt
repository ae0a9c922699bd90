use Rattle.std.proofs.Common.{subst}
use Rattle.sigstore_verify.specs.Inputs.{anchor_with}
use Rattle.command_files.proofs.Wholes.{whole_read}
use Rattle.command_archive.specs.Check.{Takes, read}
use Rattle.command_archive.proofs.finding.found.Goals as goal

pub returns-in-Ok : goal.returns-in-Ok
returns-in-Ok g c =
    read c.in-Ok.bytes (whole_read _ _ _ c.in-Ok.bytes c.in-Ok.ensures)
    (subst (λ b. Takes (anchor_with g.C.CryptoProvider g.M.Armor c.args.anchor.now) c.args.least b c.taken-found.result) c.as_bytes.ensures c.taken-found.ensures)
