use Rattle.sigstore_keys.specs.Crypto.{crypto_with}
use Rattle.command_download.proofs.Chaining.{within_limits}
use Rattle.command_download.proofs.chains.chains_of.Goals as goal

pub returns : goal.returns
returns g c =
    within_limits (crypto_with g.C.CryptoProvider g.M.Armor c.args.providers) c.args.request.now.root.now c.args.request.now.moment c.default-config.result c.args.request.now.downloads.now _ _ c.chains_by.result
    c.default-config.ensures c.chains_by.ensures
