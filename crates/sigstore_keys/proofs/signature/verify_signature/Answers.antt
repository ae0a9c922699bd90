use Rattle.std.proofs.Common.{◌↔◌, IsTrue, IsOk, sym, subst}
use Rattle.sigstore_keys.specs.Good.{is_of_key, is_good}
use Rattle.sigstore_keys.proofs.signature.verify_signature.Goals as goal

-- src/signature.rt:15:1
pub returns-clause-good : goal.returns-clause-good
returns-clause-good g c = λ _. subst (λ r. IsOk c.verify.result ↔ IsTrue (is_of_key (λ key. is_good (g.C.CryptoProvider.accepts c.args.provider.now) key c.args.message.now c.args.signature.now) r)) (sym c.in_ok-key.ensures.ok) c.verify.ensures.good
