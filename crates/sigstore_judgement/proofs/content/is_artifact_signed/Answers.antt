use Rattle.std.proofs.Common.{◌≡◌, length, ap, ◌∙◌, is_ok, sym}
use Rattle.sigstore_types_parts.specs.HashAlgorithm.{digest_len_of}
use Rattle.sigstore_keys.specs.Good.{prehashed_of}
use Rattle.sigstore_judgement.proofs.Signed.{taken_signed}
use Rattle.sigstore_judgement.proofs.content.is_artifact_signed.Goals as goal

pub returns-in-Some-taken : goal.returns-in-Some-taken
returns-in-Some-taken g c =
    let accepts = g.C.CryptoProvider.accepts c.args.provider.now in
    let digest = c.in-Some-taken.digest.now in
    let long : length digest.1 ≡ digest_len_of digest.0 = ap length (sym c.as_bytes.ensures.bytes) ∙ c.as_bytes.ensures.size in
    c.is_ok.ensures.value ∙ ap is_ok c.verify_prehashed.ensures.exact
    ∙ ap (λ d. is_ok (prehashed_of accepts c.args.key.now d c.args.signature.now)) c.as_bytes.ensures.bytes
    ∙ taken_signed accepts c.args.key.now c.args.digests.now _ c.in-Some.algorithm digest c.args.signature.now (sym c.in-Some.ensures) (sym c.in-Some-taken.ensures) long
