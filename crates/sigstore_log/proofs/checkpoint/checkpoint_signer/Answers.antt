use Rattle.std.proofs.Common.{rules, ◌≡◌, is_some, ap, ◌∙◌}
use Rattle.sigstore_log.specs.Signed.{signer_of}
use Rattle.sigstore_log.proofs.Signer.{signed_where_found}
use Rattle.sigstore_log.proofs.checkpoint.checkpoint_signer.Goals as goal

pub returns-clause-signed : goal.returns-clause-signed
returns-clause-signed g c =
    let accepts = g.C.CryptoProvider.accepts c.args.provider.now in
    let value : c.least_signer_in.result ≡ signer_of accepts c.args.logs.now c.args.now c.args.checkpoint.now = search rules in
    ap is_some value ∙ signed_where_found accepts c.args.logs.now c.args.now c.args.checkpoint.now
