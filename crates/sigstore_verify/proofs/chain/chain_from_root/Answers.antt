use Rattle.std.proofs.Common.{◌≡◌, Result, Ok, Err}
use Rattle.std.specs.Prelude.{⊤, IfOk, IfErr}
use Rattle.sigstore_verify.proofs.RootPromises.{promises_chain}
use Rattle.sigstore_verify.proofs.chain.chain_from_root.Goals as goal

pub returns : goal.returns
returns g c = promises_chain _ _ _ _ c.trust_chain.ensures
