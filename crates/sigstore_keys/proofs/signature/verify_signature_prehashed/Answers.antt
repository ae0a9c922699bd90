use Rattle.std.proofs.Common.{◌↔◌, IsTrue, IsOk, sym, subst, ap, ◌∙◌}
use Rattle.sigstore_keys.specs.Scheme.{has_digest, digest_size_of}
use Rattle.sigstore_keys.specs.Good.{is_of_key, is_good_over}
use Rattle.sigstore_keys.proofs.Schemes.{der_scheme}
use Rattle.sigstore_keys.proofs.signature.verify_signature_prehashed.Goals as goal

-- src/signature.rt:35:1
pub returns-clause-good : goal.returns-clause-good
returns-clause-good g c = λ size has _.
    let same = der_scheme c.args.scheme c.args.der.now c.in_ok-key.key c.in_ok-key.ensures.ok in
    let good = c.verify_prehashed.ensures.good (size ∙ ap digest_size_of (sym same)) (subst (λ s. IsTrue (has_digest s)) (sym same) has) in
    subst (λ r. IsOk c.verify_prehashed.result ↔ IsTrue (is_of_key (λ key. is_good_over (g.C.CryptoProvider.accepts c.args.provider.now) key c.args.digest.now c.args.signature.now) r)) (sym c.in_ok-key.ensures.ok) good
