use Rattle.std.proofs.Common.{◌≡◌, ℕ, List, refl, sym, ap, subst, ◌∙◌, Ok, Err, None, true, Result}
use Rattle.std.specs.List.{list_all}
use Rattle.sigstore_types_parts.specs.declared.hash_algorithm.HashAlgorithm.{HashAlgorithm}
use Rattle.sigstore_types.specs.declared.bundle.Bundle.{Bundle}
use Rattle.sigstore_keys.specs.Digest.{is_hashed}
use Rattle.sigstore_judgement.specs.declared.error.Error.{Error}
use Rattle.sigstore_judgement.specs.declared.report.VerificationResult.{VerificationResult}
use Rattle.sigstore_judgement.specs.Artifact.{read_kind, digest_among}
use Rattle.sigstore_judgement.specs.Grounds.{Grounds, grounds_by, terms_over}
use Rattle.sigstore_judgement.specs.Judged.{ready_as, bundle_in, judged_had}
use Rattle.sigstore_policy.specs.Policy.{meaning_of}
use Rattle.sigstore_judgement.specs.Taking.{Takes}
use Rattle.sigstore_judgement.proofs.Stages.{judging_accepted, judging_refused, reading_refused, prepared_hashed}
use Rattle.sigstore_judgement.proofs.verifier.judge_read.Goals as goal

pub returns-in-Ok-judge : goal.returns-in-Ok-judge
returns-in-Ok-judge g c =
    let before = g.A.ArtifactSource.seen c.args.source.now in
    let after = g.A.ArtifactSource.seen c.read_digests.new.source in
    let terms = terms_over (grounds_by g.C.CryptoProvider g.M.Armor c.args.grounds.now) (meaning_of c.args.policy) in
    let ready = ready_as c.in-Ok.ready in
    let digests = c.in-Ok-read_digests.digests in
    let hashed : list_all is_hashed c.as_slice.result.now ≡ true =
    ap (list_all is_hashed) c.as_slice.ensures ∙ prepared_hashed read_kind terms.policy c.args.bundle.now ready refl c.in-Ok.ensures.ok in
    let judges : Grounds → Bundle → List (HashAlgorithm × List ℕ) → Result VerificationResult Error =
    λ grounds bundle taken. judged_had grounds ready bundle (digest_among taken) None in
    let at = grounds_by g.C.CryptoProvider g.M.Armor c.args.grounds.now in
    judging_accepted terms c.args.bundle.now before after c.args.max ready digests c.in-Ok-judge.result c.in-Ok.ensures.ok
    (subst (λ l. Takes before after c.args.max l (Ok digests)) c.as_slice.ensures (c.in-Ok-read_digests.ensures hashed)) (
    ap (λ bundle. judges at bundle digests) (sym c.in-Ok.ensures.bundle)
    ∙ ap (judges at (bundle_in c.in-Ok.ready)) (sym c.as_slice-in-Ok-read_digests.ensures)
    ∙ c.in-Ok-judge.ensures.ok
    )

pub returns-in-Err-judge : goal.returns-in-Err-judge
returns-in-Err-judge g c =
    let before = g.A.ArtifactSource.seen c.args.source.now in
    let after = g.A.ArtifactSource.seen c.read_digests.new.source in
    let terms = terms_over (grounds_by g.C.CryptoProvider g.M.Armor c.args.grounds.now) (meaning_of c.args.policy) in
    let ready = ready_as c.in-Ok.ready in
    let digests = c.in-Ok-read_digests.digests in
    let hashed : list_all is_hashed c.as_slice.result.now ≡ true =
    ap (list_all is_hashed) c.as_slice.ensures ∙ prepared_hashed read_kind terms.policy c.args.bundle.now ready refl c.in-Ok.ensures.ok in
    let judges : Grounds → Bundle → List (HashAlgorithm × List ℕ) → Result VerificationResult Error =
    λ grounds bundle taken. judged_had grounds ready bundle (digest_among taken) None in
    let at = grounds_by g.C.CryptoProvider g.M.Armor c.args.grounds.now in
    judging_refused terms c.args.bundle.now before after c.args.max ready digests c.in-Err-judge.e c.in-Ok.ensures.ok
    (subst (λ l. Takes before after c.args.max l (Ok digests)) c.as_slice.ensures (c.in-Ok-read_digests.ensures hashed)) (λ other.
    ap (λ bundle. judges at bundle digests) (sym c.in-Ok.ensures.bundle)
    ∙ ap (judges at (bundle_in c.in-Ok.ready)) (sym c.as_slice-in-Ok-read_digests.ensures)
    ∙ c.in-Err-judge.ensures.err other
    )

pub returns-in-Err-read_digests : goal.returns-in-Err-read_digests
returns-in-Err-read_digests g c =
    let before = g.A.ArtifactSource.seen c.args.source.now in
    let after = g.A.ArtifactSource.seen c.read_digests.new.source in
    let terms = terms_over (grounds_by g.C.CryptoProvider g.M.Armor c.args.grounds.now) (meaning_of c.args.policy) in
    let ready = ready_as c.in-Ok.ready in
    let hashed : list_all is_hashed c.as_slice.result.now ≡ true =
    ap (list_all is_hashed) c.as_slice.ensures ∙ prepared_hashed read_kind terms.policy c.args.bundle.now ready refl c.in-Ok.ensures.ok in
    reading_refused terms c.args.bundle.now before after c.args.max ready c.in-Err-read_digests.e c.in-Ok.ensures.ok
    (subst (λ l. Takes before after c.args.max l (Err c.in-Err-read_digests.e)) c.as_slice.ensures (c.in-Err-read_digests.ensures hashed))
