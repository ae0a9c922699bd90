use Rattle.std.proofs.Common.{◌≡◌, ◌∙◌, true, sym, is_ok}
use Rattle.sigstore_keys.specs.Scheme.{has_digest}
use Rattle.sigstore_keys.specs.Good.{is_good_over}
use Rattle.sigstore_tuf_parts.proofs.SignedTexts.{same_test}
use Rattle.sigstore_tuf_parts.proofs.accepted.is_good_over.Goals as goal

pub returns-then-supports_prehashed : goal.returns-then-supports_prehashed
returns-then-supports_prehashed g c =
    let has : has_digest c.args.key.now.scheme ≡ true = sym c.supports_prehashed.ensures ∙ c.if-supports_prehashed.true in
    let good = is_good_over (g.C.CryptoProvider.accepts c.args.provider.now) c.args.key.now c.args.subject.now c.args.raw.now in
    c.is_ok.ensures.value ∙ same_test (is_ok c.verify_prehashed.result) good (c.verify_prehashed.ensures.good (c.requires has) has)
