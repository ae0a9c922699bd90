use Rattle.std.proofs.Common.{◌≡◌, None, drop}
use Rattle.sigstore_log.specs.Signed.{line_signer, least_signer_in}
use Rattle.sigstore_log.proofs.checkpoint.least_signer_in.Given as goal

-- the least of all is that of what was found and of the lines that are left
abbrev pub invariant-lines : goal.invariant-lines
invariant-lines g l =
    least_signer_in (line_signer (g.C.CryptoProvider.accepts l.provider) l.logs l.now l.signed) None l.lines
    ≡ least_signer_in (line_signer (g.C.CryptoProvider.accepts l.provider) l.logs l.now l.signed) l.found (drop l.line-index l.lines)
