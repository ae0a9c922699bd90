use Rattle.std.proofs.Common.{◌≡◌, ◌≢◌, ℕ, List, [], ◌∷◌, sym, ap, ◌∙◌, Result, Ok, Err, None}
use Rattle.sigstore_types_parts.specs.declared.hash_algorithm.HashAlgorithm.{HashAlgorithm}
use Rattle.sigstore_types.specs.declared.bundle.Bundle.{Bundle}
use Rattle.sigstore_judgement.specs.declared.error.Error.TheVariants.{NoMemory}
use Rattle.sigstore_judgement.specs.declared.error.Error.{Error}
use Rattle.sigstore_judgement.specs.declared.report.VerificationResult.{VerificationResult}
use Rattle.sigstore_judgement.specs.Artifact.{Digest, digest_kind, digest_among}
use Rattle.sigstore_judgement.specs.Grounds.{Grounds, grounds_by, terms_over}
use Rattle.sigstore_judgement.specs.Judged.{ready_as, bundle_in, prepared_of, judged_had}
use Rattle.sigstore_policy.specs.Policy.{meaning_of}
use Rattle.sigstore_judgement.proofs.Stages.{handed, handed_unready, digest_judged}
use Rattle.sigstore_judgement.proofs.verifier.judge_digest.Goals as goal

pub returns-in-Ok : goal.returns-in-Ok
returns-in-Ok g c =
    let terms = terms_over (grounds_by g.C.CryptoProvider g.M.Armor c.args.grounds.now) (meaning_of c.args.policy) in
    let ready = ready_as c.in-Ok.ready in
    let digest = c.args.digest.now in
    let grounds = grounds_by g.C.CryptoProvider g.M.Armor c.args.grounds.now in
    let judges : Grounds → Bundle → List (HashAlgorithm × List ℕ) → Result VerificationResult Error =
    λ grounds bundle taken. judged_had grounds ready bundle (digest_among taken) None in
    let prepared : prepared_of (digest_kind digest.0) terms.policy c.args.bundle.now ≡ Ok ready =
    ap (λ a. prepared_of (digest_kind a) terms.policy c.args.bundle.now) (sym c.algorithm.ensures) ∙ c.in-Ok.ensures.ok in
    handed terms c.args.bundle.now (Digest digest.0 digest.1) ready c.judge.result (judges grounds (bundle_in c.in-Ok.ready) c.from_ref.result.now) prepared (
    digest_judged terms c.args.bundle.now digest.0 digest.1 ready prepared
    ∙ ap (λ bundle. judges grounds bundle (digest ∷ [])) (sym c.in-Ok.ensures.bundle)
    ∙ ap (judges grounds (bundle_in c.in-Ok.ready)) (sym c.from_ref.ensures.value)
    )
    c.judge.ensures.ok c.judge.ensures.err

pub returns-in-Err : goal.returns-in-Err
returns-in-Err g c =
    let terms = terms_over (grounds_by g.C.CryptoProvider g.M.Armor c.args.grounds.now) (meaning_of c.args.policy) in
    let unready : c.in-Err.e ≢ NoMemory → prepared_of (digest_kind c.args.digest.now.0) terms.policy c.args.bundle.now ≡ Err c.in-Err.e =
    λ n. ap (λ a. prepared_of (digest_kind a) terms.policy c.args.bundle.now) (sym c.algorithm.ensures) ∙ c.in-Err.ensures.err n in
    handed_unready terms c.args.bundle.now (Digest c.args.digest.now.0 c.args.digest.now.1) c.in-Err.e unready c.in-Err.ensures.memory
