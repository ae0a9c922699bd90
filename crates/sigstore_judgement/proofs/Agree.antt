-- A blob and a reader that tells the same bytes get one answer.
use Rattle.std.proofs.Common.{◌≡◌, ◌≢◌, ℕ, List, Bool, true, false, ◌||◌, if◌then◌else◌, Option, Some, None, Result, Ok, Err, refl, ap}
use Rattle.std.specs.Prelude.{⊤}
use Rattle.std.specs.List.{list_all}
use Rattle.foundation.specs.Steps.{◌>>=◌}
use Rattle.sigstore_types.specs.declared.bundle.Bundle.{Bundle}
use Rattle.sigstore_types.specs.declared.content.SignatureContent.{SignatureContent}
use Rattle.sigstore_types.specs.declared.content.SignatureContent.TheVariants.{MessageSignature as OfMessage, DsseEnvelope as OfEnvelope}
use Rattle.sigstore_types_parts.specs.declared.hash_algorithm.HashAlgorithm.{HashAlgorithm}
use Rattle.sigstore_keys.specs.declared.key.VerificationKey.{VerificationKey}
use Rattle.sigstore_keys.specs.declared.scheme.SigningScheme.{SigningScheme}
use Rattle.sigstore_keys.specs.Digest.{is_hashed}
use Rattle.sigstore_keys.specs.Good.{Judge}
use Rattle.sigstore_keys.specs.Key.{spki_key_of}
use Rattle.sigstore_keys.specs.Scheme.{digest_algorithm_of, has_digest}
use Rattle.sigstore_judgement.specs.declared.error.Error.{Error}
use Rattle.sigstore_judgement.specs.declared.error.Error.TheVariants.{UnsupportedArtifact, Crypto}
use Rattle.sigstore_judgement.specs.declared.report.VerificationResult.{VerificationResult}
use Rattle.sigstore_judgement.specs.Agree.{BlobAgrees}
use Rattle.sigstore_judgement.specs.Artifact.{Artifact, Blob, Read, blob_kind, read_kind, digest_of, bytes_of}
use Rattle.sigstore_judgement.specs.Claim.{Claim, claim_of, needed_of, is_bound}
use Rattle.sigstore_judgement.specs.Content.{scheme_of, signs_digest, subject_by, is_good_of, signed_in, first_refusal, content_judged_of}
use Rattle.sigstore_judgement.specs.Error.{by_crypto}
use Rattle.sigstore_judgement.specs.Grounds.{Terms}
use Rattle.sigstore_judgement.specs.Judged.{Ready, key_with, ready_with, ready_of, prepared_of, judged_had, judged_of}
use Rattle.sigstore_judgement.specs.Signer.{Signer, key_in, signer_of}
use Rattle.sigstore_judgement.proofs.Stages.{had_alike}
use Rattle.sigstore_judgement.proofs.Accepts.{served, after_claim, after_scheme, after_key, after_signer}

-- where the scheme has a digest, a signature is over it
subject_alike : (o : Option HashAlgorithm) (bytes : List ℕ) → (o ≢ None) → subject_by o (digest_of (Blob bytes)) (Some bytes) ≡ subject_by o (digest_of (Read bytes)) None
subject_alike None bytes h = absurd (h refl)
subject_alike (Some a) bytes h = refl

there : (o : Option HashAlgorithm) (scheme : SigningScheme) → digest_algorithm_of scheme ≡ o → has_digest scheme ≡ true → digest_algorithm_of scheme ≢ None
there None scheme is h e = not_both (has_digest scheme) h
  where
    not_both : (b : Bool) → b ≡ true → ⊥
    not_both b k = cc
there (Some a) scheme is h e = cc

content_alike : (accepts : Judge) (key : VerificationKey) (content : SignatureContent) (claim : Claim) (bytes : List ℕ) → signs_digest key.scheme content ≡ true
    → content_judged_of accepts key content claim (digest_of (Blob bytes)) (Some bytes) ≡ content_judged_of accepts key content claim (digest_of (Read bytes)) None
content_alike accepts key (OfMessage message) claim bytes h =
    ap (λ o. first_refusal (OfMessage message) (is_bound claim (digest_of (Read bytes))) (is_good_of accepts key o message.signature))
    (subject_alike (digest_algorithm_of key.scheme) bytes (there (digest_algorithm_of key.scheme) key.scheme refl h))
content_alike accepts key (OfEnvelope envelope) claim bytes h = refl

signed_alike : (content : SignatureContent) (bytes : List ℕ) → signed_in content (digest_of (Blob bytes)) ≡ signed_in content (digest_of (Read bytes))
signed_alike (OfMessage message) bytes = refl
signed_alike (OfEnvelope envelope) bytes = refl

module _ (terms : Terms) (bundle : Bundle) (bytes : List ℕ) where
  abbrev judge : Artifact → Ready → Result VerificationResult Error
  judge artifact ready = judged_had terms.grounds ready bundle (digest_of artifact) (bytes_of artifact)

  abbrev Differs : Result VerificationResult Error → Type 0
  Differs r = r ≢ Err UnsupportedArtifact

  abbrev supported : Bool → Bool → Result ⊤ Error
  supported a b = if a then (if b then Ok tt else Err Crypto) else Err UnsupportedArtifact

  abbrev after : Artifact → Signer → VerificationKey → SigningScheme → Claim → Result ⊤ Error → Result VerificationResult Error
  after artifact signer key scheme claim r = ((r >>= λ _. Ok claim) >>= after_claim signer key scheme) >>= judge artifact

  by_support : (signer : Signer) (key : VerificationKey) (scheme : SigningScheme) (claim : Claim) (a b : Bool) → signs_digest scheme bundle.content ≡ a
      → Differs (after (Read bytes) signer key scheme claim (supported (a || false) b))
      → after (Blob bytes) signer key scheme claim (supported (a || true) b) ≡ after (Read bytes) signer key scheme claim (supported (a || false) b)
  by_support signer key scheme claim true true e n =
      had_alike terms.grounds (ready_with signer (key_with scheme key) claim) bundle (digest_of (Blob bytes)) (digest_of (Read bytes)) (Some bytes) None
      (content_alike terms.grounds.crypto.accepts (key_with scheme key) bundle.content claim bytes e) (signed_alike bundle.content bytes)
  by_support signer key scheme claim true false e n = refl
  by_support signer key scheme claim false b e n = absurd (n refl)

  by_claim : (signer : Signer) (key : VerificationKey) (scheme : SigningScheme) (r : Result Claim Error)
      → Differs (((r >>= served read_kind scheme bundle.content) >>= after_claim signer key scheme) >>= judge (Read bytes))
      → (((r >>= served blob_kind scheme bundle.content) >>= after_claim signer key scheme) >>= judge (Blob bytes))
      ≡ (((r >>= served read_kind scheme bundle.content) >>= after_claim signer key scheme) >>= judge (Read bytes))
  by_claim signer key scheme (Ok claim) n = by_support signer key scheme claim (signs_digest scheme bundle.content) (list_all is_hashed (needed_of scheme claim)) refl n
  by_claim signer key scheme (Err e) n = refl

  by_scheme : (signer : Signer) (key : VerificationKey) (r : Result SigningScheme Error) → Differs ((r >>= after_scheme read_kind signer key bundle) >>= judge (Read bytes))
      → ((r >>= after_scheme blob_kind signer key bundle) >>= judge (Blob bytes)) ≡ ((r >>= after_scheme read_kind signer key bundle) >>= judge (Read bytes))
  by_scheme signer key (Ok scheme) n = by_claim signer key scheme (claim_of bundle.content) n
  by_scheme signer key (Err e) n = refl

  by_key : (signer : Signer) (r : Result VerificationKey Error) → Differs ((r >>= after_key read_kind signer bundle) >>= judge (Read bytes))
      → ((r >>= after_key blob_kind signer bundle) >>= judge (Blob bytes)) ≡ ((r >>= after_key read_kind signer bundle) >>= judge (Read bytes))
  by_key signer (Ok key) n = by_scheme signer key (by_crypto (scheme_of key.scheme bundle.content)) n
  by_key signer (Err e) n = refl

  by_signer : (r : Result Signer Error) → Differs ((r >>= after_signer read_kind bundle) >>= judge (Read bytes))
      → ((r >>= after_signer blob_kind bundle) >>= judge (Blob bytes)) ≡ ((r >>= after_signer read_kind bundle) >>= judge (Read bytes))
  by_signer (Ok signer) n = by_key signer (by_crypto (spki_key_of (key_in signer))) n
  by_signer (Err e) n = refl

  agrees : Differs (judged_of terms bundle (Read bytes)) → judged_of terms bundle (Blob bytes) ≡ judged_of terms bundle (Read bytes)
  unfolding judged_of prepared_of ready_of
  agrees n = by_signer (signer_of terms.policy bundle) n

pub blob_agrees : BlobAgrees
blob_agrees terms bundle bytes n = agrees terms bundle bytes n
