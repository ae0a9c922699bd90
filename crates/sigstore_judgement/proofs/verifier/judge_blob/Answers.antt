use Rattle.std.proofs.Common.{◌≡◌, ℕ, List, refl, sym, ap, ◌∙◌, Some, true, Result}
use Rattle.std.specs.List.{list_all}
use Rattle.sigstore_types_parts.specs.declared.hash_algorithm.HashAlgorithm.{HashAlgorithm}
use Rattle.sigstore_types.specs.declared.bundle.Bundle.{Bundle}
use Rattle.sigstore_keys.specs.Digest.{is_hashed, digests_by}
use Rattle.sigstore_judgement.specs.declared.error.Error.{Error}
use Rattle.sigstore_judgement.specs.declared.report.VerificationResult.{VerificationResult}
use Rattle.sigstore_judgement.specs.Artifact.{Blob, blob_kind, digest_among}
use Rattle.sigstore_judgement.specs.Grounds.{Grounds, grounds_by, terms_over}
use Rattle.sigstore_judgement.specs.Judged.{ready_as, bundle_in, judged_had}
use Rattle.sigstore_policy.specs.Policy.{meaning_of}
use Rattle.sigstore_judgement.proofs.Stages.{handed, handed_unready, handed_wanting, blob_judged, prepared_hashed}
use Rattle.sigstore_judgement.proofs.verifier.judge_blob.Goals as goal

pub returns-in-Ok-digests_in : goal.returns-in-Ok-digests_in
returns-in-Ok-digests_in g c =
    let terms = terms_over (grounds_by g.C.CryptoProvider g.M.Armor c.args.grounds.now) (meaning_of c.args.policy) in
    let ready = ready_as c.in-Ok.ready in
    let grounds = grounds_by g.C.CryptoProvider g.M.Armor c.args.grounds.now in
    let judges : Grounds → Bundle → List (HashAlgorithm × List ℕ) → Result VerificationResult Error =
    λ grounds bundle taken. judged_had grounds ready bundle (digest_among taken) (Some c.args.bytes.now) in
    let hashed : list_all is_hashed c.as_slice.result.now ≡ true =
    ap (list_all is_hashed) c.as_slice.ensures ∙ prepared_hashed blob_kind terms.policy c.args.bundle.now ready refl c.in-Ok.ensures.ok in
    let taken : c.in-Ok-digests_in.digests ≡ digests_by ready.needed c.args.bytes.now =
    c.in-Ok-digests_in.ensures.ok hashed ∙ ap (λ l. digests_by l c.args.bytes.now) c.as_slice.ensures in
    handed terms c.args.bundle.now (Blob c.args.bytes.now) ready c.judge.result (judges grounds (bundle_in c.in-Ok.ready) c.as_slice-in-Ok-digests_in.result.now)
    c.in-Ok.ensures.ok (
    blob_judged terms c.args.bundle.now c.args.bytes.now ready c.in-Ok-digests_in.digests c.in-Ok.ensures.ok taken
    ∙ ap (λ bundle. judges grounds bundle c.in-Ok-digests_in.digests) (sym c.in-Ok.ensures.bundle)
    ∙ ap (judges grounds (bundle_in c.in-Ok.ready)) (sym c.as_slice-in-Ok-digests_in.ensures)
    )
    c.judge.ensures.ok c.judge.ensures.err

pub returns-in-Err-digests_in : goal.returns-in-Err-digests_in
returns-in-Err-digests_in g c =
    let terms = terms_over (grounds_by g.C.CryptoProvider g.M.Armor c.args.grounds.now) (meaning_of c.args.policy) in
    let hashed : list_all is_hashed c.as_slice.result.now ≡ true =
    ap (list_all is_hashed) c.as_slice.ensures ∙ prepared_hashed blob_kind terms.policy c.args.bundle.now (ready_as c.in-Ok.ready) refl c.in-Ok.ensures.ok in
    handed_wanting terms c.args.bundle.now (Blob c.args.bytes.now) (ready_as c.in-Ok.ready) c.in-Err-digests_in.e c.in-Ok.ensures.ok (c.in-Err-digests_in.ensures.err hashed)

pub returns-in-Err : goal.returns-in-Err
returns-in-Err g c =
    handed_unready (terms_over (grounds_by g.C.CryptoProvider g.M.Armor c.args.grounds.now) (meaning_of c.args.policy)) c.args.bundle.now (Blob c.args.bytes.now) c.in-Err.e c.in-Err.ensures.err
    c.in-Err.ensures.memory
