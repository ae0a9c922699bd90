use Rattle.sigstore_keys.specs.Crypto.{crypto_with}
use Rattle.sigstore_judgement.specs.declared.rules.ReadArtifact.TheVariants.{Digests}
use Rattle.sigstore_verify.specs.ByDigests.{told_asked_with}
use Rattle.sigstore_verify.proofs.Told.{told_untrusted, told_unusable, told_unread, told_judged}
use Rattle.sigstore_verify.proofs.by_digests.judge_digests.Goals as goal

pub returns-in-Err : goal.returns-in-Err
returns-in-Err g c =
    λ n. told_untrusted (told_asked_with (crypto_with g.C.CryptoProvider g.M.Armor c.args.providers.now) c.args.now c.args.asked.now) c.args.file.now (Digests c.args.digests)
    c.in-Err.e (c.in-Err.ensures.err n)

pub returns-in-Err-new : goal.returns-in-Err-new
returns-in-Err-new g c =
    λ n. told_unusable (told_asked_with (crypto_with g.C.CryptoProvider g.M.Armor c.args.providers.now) c.args.now c.args.asked.now) c.args.file.now (Digests c.args.digests)
    c.in-Ok.trust c.in-Ok.ensures.ok c.in-Err-new.e (c.in-Err-new.ensures.err n)

pub returns-in-Err-read_bundle : goal.returns-in-Err-read_bundle
returns-in-Err-read_bundle g c =
    λ n. told_unread (told_asked_with (crypto_with g.C.CryptoProvider g.M.Armor c.args.providers.now) c.args.now c.args.asked.now) c.args.file.now (Digests c.args.digests)
    c.in-Ok.trust c.in-Ok.ensures.ok c.in-Ok-new.verifier.material c.in-Ok-new.ensures.kept c.in-Err-read_bundle.e (c.in-Err-read_bundle.ensures.err n)

pub returns : goal.returns
returns g c =
    let asked = told_asked_with (crypto_with g.C.CryptoProvider g.M.Armor c.args.providers.now) c.args.now c.args.asked.now in
    told_judged asked c.args.file.now (Digests c.args.digests) c.in-Ok.trust c.in-Ok.ensures.ok c.in-Ok-new.verifier.material c.in-Ok-new.ensures.kept
    c.in-Ok-read_bundle.bundle c.in-Ok-read_bundle.ensures.ok c.judge_by_rules-judged.result
    (rw (c.in-Ok-new.ensures.provider, c.in-Ok-new.ensures.armor) at c.judge_by_rules-judged.ensures.ok)
    (rw (c.in-Ok-new.ensures.provider, c.in-Ok-new.ensures.armor) at c.judge_by_rules-judged.ensures.err)
