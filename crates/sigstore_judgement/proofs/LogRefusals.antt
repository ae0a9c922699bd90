-- A refusal of the log comes from an entry.
use Rattle.std.proofs.Common.{◌≡◌, ◌⊎◌, inl, inr, ℕ, List, [], ◌∷◌, ◌++◌, Bool, true, false, ◌||◌, if◌then◌else◌, Option, Some, None, Result, Ok, Err, sym, ap, ◌∙◌, subst}
use Rattle.std.specs.Prelude.{⊤}
use Rattle.std.specs.List.{list_all}
use Rattle.jiff_core.specs.declared.timestamp.Timestamp.{Timestamp}
use Rattle.foundation.specs.Results.{err_same, refused_at}
use Rattle.sigstore_types_parts.specs.declared.hash_algorithm.HashAlgorithm.{HashAlgorithm}
use Rattle.sigstore_types_parts.specs.declared.error.TypesError.{TypesError}
use Rattle.sigstore_envelopes.specs.declared.envelope.DsseEnvelope.{DsseEnvelope}
use Rattle.sigstore_envelopes.specs.declared.statement.Statement.{Statement}
use Rattle.sigstore_envelopes.specs.declared.statement.Subject.{Subject}
use Rattle.sigstore_envelopes.specs.Statement.{statement_of_bytes, algorithms_of}
use Rattle.sigstore_types.specs.declared.bundle.Bundle.{Bundle}
use Rattle.sigstore_types.specs.declared.content.SignatureContent.{SignatureContent}
use Rattle.sigstore_types.specs.declared.material.VerificationMaterialContent.{VerificationMaterialContent}
use Rattle.sigstore_types.specs.declared.material.VerificationMaterialContent.TheVariants as material
use Rattle.sigstore_types.specs.declared.content.SignatureContent.TheVariants.{MessageSignature as OfMessage, DsseEnvelope as OfEnvelope}
use Rattle.sigstore_types.specs.Bundle.{entries_in, tokens_in, structure_of}
use Rattle.sigstore_keys.specs.declared.error.Error.{Error as CryptoError}
use Rattle.sigstore_keys.specs.declared.key.VerificationKey.{VerificationKey}
use Rattle.sigstore_keys.specs.declared.scheme.SigningScheme.{SigningScheme}
use Rattle.sigstore_keys.specs.declared.distinct.Threshold.{Threshold}
use Rattle.sigstore_keys.specs.Key.{spki_key_of}
use Rattle.sigstore_keys.specs.Distinct.{is_enough}
use Rattle.certificate_claims.specs.Info.{info_of}
use Rattle.sigstore_certificate.specs.declared.error.CertificateRefusal.{CertificateRefusal}
use Rattle.sigstore_certificate.specs.declared.error.CertificateRefusal.TheVariants as refusal
use Rattle.sigstore_certificate.specs.Certified.{certified_of}
use Rattle.sigstore_judgement.specs.declared.error.CertificateError.TheVariants as certificate
use Rattle.sigstore_judgement.specs.declared.error.Error.{Error}
use Rattle.sigstore_judgement.specs.declared.error.Error.TheVariants as verify
use Rattle.sigstore_judgement.specs.declared.error.TransparencyLogError.{TransparencyLogError}
use Rattle.sigstore_judgement.specs.declared.error.TransparencyLogError.TheVariants as log
use Rattle.sigstore_judgement.specs.declared.evidence.Evidence.{Evidence}
use Rattle.sigstore_judgement.specs.Artifact.{Artifact, Blob, Read, Digest, Kind, kind_of, digest_of, bytes_of}
use Rattle.sigstore_judgement.specs.Claim.{Claim, is_in_toto, typed_of, or_invalid, subjects_of, digested_of, statement_judged_of, stated_of, claim_of, needed_of, is_bound}
use Rattle.sigstore_judgement.specs.Conditions.{conditions_judged_of}
use Rattle.sigstore_judgement.specs.Content.{scheme_of, signs_digest, supported_of, signature_in, is_signed, first_refusal, content_judged_of}
use Rattle.sigstore_judgement.specs.Entries.{log_judged_of, log_count_of, logs_judged_of, entries_described_of, HasUndescribed}
use Rattle.sigstore_judgement.specs.Error.{error_of_crypto, error_of_info, error_of_certificate, by_types, by_crypto, by_info, by_certificate}
use Rattle.sigstore_judgement.specs.Grounds.{trust_in, Terms}
use Rattle.sigstore_judgement.specs.Judged.{Ready, claimed_of, ready_of, prepared_of, managed_vouched_of, intermediates_in, owner_vouched_of, vouched_of, judged_had, judged_of}
use Rattle.sigstore_policy.specs.Policy.{Meaning, PublicKey, Certificate}
use Rattle.sigstore_judgement.specs.Signer.{Signer, Managed, Certified, conditions_in, key_in, material_in, certificate_in, keyed_of, named_of, managed_of, owner_of, signer_of, IsSigner}
use Rattle.sigstore_judgement.specs.Unlogged.{HasUnlogged, HasUntimely, LogRefusals}
use Rattle.sigstore_judgement.specs.Tokens.{tokens_judged_of}
use Rattle.sigstore_judgement.specs.Verified.{promises_judged_of, verified_of}
use Rattle.sigstore_judgement.proofs.Accepts.{Prepared, prepared_means}
use Rattle.sigstore_judgement.proofs.ConditionLaw.{conditions_caused}
use Rattle.sigstore_judgement.proofs.DescribedCauses.{entries_undescribed}
use Rattle.sigstore_judgement.proofs.EntryCauses.{Unlogged, Untimely, entries_unlogged}
use Rattle.sigstore_judgement.proofs.TokenLaw.{tokens_unstamped}
use Rattle.sigstore_judgement.proofs.JudgeCauses.{IsLowered, as_lowered, as_crypto, as_info, through_crypto, through_info, through_certificate}
use Rattle.sigstore_judgement.proofs.VerifiedLaw.{promises_refused, none_there}

-- the refusals that aren't of the log
abbrev pub NoLog : Error → Type 0
NoLog (verify.TransparencyLog fault) = ⊥
NoLog _ = ⊤

types_no_log : {A : Type 0} (r : Result A TypesError) (e : Error) → by_types r ≡ Err e → NoLog e
types_no_log (Ok x) e h = cc
types_no_log (Err t) e h = by (as_lowered verify.Bundle t)
  where
    by : IsLowered verify.Bundle t → NoLog e
    by (inl want) = subst NoLog (sym want ∙ err_same _ e h) tt
    by (inr is) = subst NoLog (sym is ∙ err_same _ e h) tt

crypto_no_log : {A : Type 0} (r : Result A CryptoError) (e : Error) → by_crypto r ≡ Err e → NoLog e
crypto_no_log r e h =
    let t = through_crypto r e h in
    by t.0 (as_crypto t.0) t.2
  where
    by : (t : CryptoError) → (error_of_crypto t ≡ verify.Crypto) ⊎ (error_of_crypto t ≡ verify.NoMemory) → error_of_crypto t ≡ e → NoLog e
    by t (inl is) k = subst NoLog (sym is ∙ k) tt
    by t (inr is) k = subst NoLog (sym is ∙ k) tt

info_no_log : {A : Type 0} (r : Result A CryptoError) (e : Error) → by_info r ≡ Err e → NoLog e
info_no_log r e h =
    let t = through_info r e h in
    by t.0 (as_info t.0) t.2
  where
    by : (t : CryptoError) → (error_of_info t ≡ verify.Certificate certificate.Malformed) ⊎ (error_of_info t ≡ verify.NoMemory) → error_of_info t ≡ e → NoLog e
    by t (inl is) k = subst NoLog (sym is ∙ k) tt
    by t (inr is) k = subst NoLog (sym is ∙ k) tt

certificate_no_log : {A : Type 0} (r : Result A CertificateRefusal) (e : Error) → by_certificate r ≡ Err e → NoLog e
certificate_no_log r e h =
    let t = through_certificate r e h in
    subst NoLog t.2 (by t.0)
  where
    by : (t : CertificateRefusal) → NoLog (error_of_certificate t)
    by refusal.Malformed = tt
    by refusal.ChainInvalid = tt
    by refusal.NoTime = tt
    by (refusal.NoValidAuthority time) = tt
    by (refusal.NotYetValid time not_before) = tt
    by (refusal.Expired time not_after) = tt
    by (refusal.Sct rule) = tt
    by refusal.InvalidTrustRoot = tt
    by (refusal.IdentityMismatch expected actual) = tt
    by (refusal.IssuerMismatch expected actual) = tt
    by (refusal.ClaimMismatch name expected actual) = tt
    by refusal.NoMemory = tt

count_no_log : (verify_tlog : Bool) (asked : Threshold) (found : ℕ) (e : Error) → logs_judged_of verify_tlog asked found ≡ Err e → NoLog e
count_no_log true asked found e h = by (is_enough asked found) h
  where
    by : (b : Bool) → ◌≡◌ {A = Result ⊤ Error} (if b then Ok tt else Err (verify.TooFewLogs asked.value found)) (Err e) → NoLog e
    by true k = cc
    by false k = subst NoLog (err_same (verify.TooFewLogs asked.value found) e k) tt
count_no_log false asked found e h = cc

lacking_no_log : (artifact : Artifact) → NoLog (kind_of artifact).lacking
lacking_no_log (Blob bytes) = tt
lacking_no_log (Read bytes) = tt
lacking_no_log (Digest given digest) = tt

supported_no_log : (kind : Kind) (signs : Bool) (needed : List HashAlgorithm) (e : Error) → NoLog kind.lacking → supported_of kind signs needed ≡ Err e → NoLog e
supported_no_log kind signs needed e l h = by (signs || kind.keeps_bytes) (list_all kind.has needed) h
  where
    by : (a b : Bool) → ◌≡◌ {A = Result ⊤ Error} (if a then (if b then Ok tt else Err kind.lacking) else Err verify.UnsupportedArtifact) (Err e) → NoLog e
    by true true k = cc
    by true false k = subst NoLog (err_same kind.lacking e k) l
    by false b k = subst NoLog (err_same verify.UnsupportedArtifact e k) tt

invalid_no_log : (r : Result Statement TypesError) (e : Error) → or_invalid r ≡ Err e → NoLog e
invalid_no_log (Ok x) e h = cc
invalid_no_log (Err t) e h = subst NoLog (err_same verify.InvalidBundle e h) tt

typed_no_log : (b : Bool) (e : Error) → ◌≡◌ {A = Result ⊤ Error} (if b then Ok tt else Err verify.UnsupportedBundle) (Err e) → NoLog e
typed_no_log true e h = cc
typed_no_log false e h = subst NoLog (err_same verify.UnsupportedBundle e h) tt

subjects_no_log : (subjects : List Subject) (e : Error) → subjects_of subjects ≡ Err e → NoLog e
subjects_no_log [] e h = subst NoLog (err_same verify.InvalidBundle e h) tt
subjects_no_log (subject ∷ subjects) e h = cc

digested_no_log : (algorithms : List HashAlgorithm) (e : Error) → digested_of algorithms ≡ Err e → NoLog e
digested_no_log [] e h = subst NoLog (err_same verify.UnsupportedBundle e h) tt
digested_no_log (algorithm ∷ algorithms) e h = cc

stated_no_log : (envelope : DsseEnvelope) (e : Error) → stated_of envelope ≡ Err e → NoLog e
unfolding stated_of
stated_no_log envelope e h =
    refused_at (typed_of envelope.payload_type) _ e h (typed_no_log (is_in_toto envelope.payload_type) e) (λ t p k.
    refused_at (or_invalid (statement_of_bytes envelope.payload)) _ e k (invalid_no_log (statement_of_bytes envelope.payload) e) (λ (statement : Statement) q l.
    refused_at (statement_judged_of statement) _ e l (λ j.
    refused_at (subjects_of statement.subjects) _ e j (subjects_no_log statement.subjects e) (λ u r m. digested_no_log (algorithms_of statement) e m)) (λ v s n. cc)))

claim_no_log : (content : SignatureContent) (e : Error) → claim_of content ≡ Err e → NoLog e
claim_no_log (OfMessage message) e h = cc
claim_no_log (OfEnvelope envelope) e h = refused_at (stated_of envelope) _ e h (stated_no_log envelope e) (λ statement p k. cc)

ready_no_log : (kind : Kind) (signer : Signer) (bundle : Bundle) (e : Error) → NoLog kind.lacking → ready_of kind signer bundle ≡ Err e → NoLog e
unfolding ready_of
ready_no_log kind signer bundle e l h =
    refused_at (by_crypto (spki_key_of (key_in signer))) _ e h (crypto_no_log (spki_key_of (key_in signer)) e) (λ (key : VerificationKey) q m.
    refused_at (by_crypto (scheme_of key.scheme bundle.content)) _ e m (crypto_no_log (scheme_of key.scheme bundle.content) e) (λ (scheme : SigningScheme) r n.
    refused_at (claimed_of kind scheme bundle.content) _ e n (λ c.
    refused_at (claim_of bundle.content) _ e c (claim_no_log bundle.content e) (λ (claim : Claim) t o.
    refused_at (supported_of kind (signs_digest scheme bundle.content) (needed_of scheme claim)) _ e o
    (supported_no_log kind (signs_digest scheme bundle.content) (needed_of scheme claim) e l) (λ v s p. cc))) (λ claim t o. cc)))

keyed_no_log : (content : VerificationMaterialContent) (e : Error) → keyed_of content ≡ Err e → NoLog e
keyed_no_log (material.PublicKey hint) e h = cc
keyed_no_log (material.Certificate certificate) e h = subst NoLog (err_same verify.UnsupportedBundle e h) tt
keyed_no_log (material.X509CertificateChain chain) e h = subst NoLog (err_same verify.UnsupportedBundle e h) tt

named_no_log : (o : Option (List ℕ)) (e : Error) → named_of o ≡ Err e → NoLog e
named_no_log None e h = subst NoLog (err_same verify.InvalidBundle e h) tt
named_no_log (Some certificate) e h = cc

signer_no_log : (policy : Meaning) (bundle : Bundle) (e : Error) → signer_of policy bundle ≡ Err e → NoLog e
unfolding managed_of owner_of
signer_no_log (PublicKey policy) bundle e h =
    refused_at (keyed_of (material_in bundle)) _ e h (keyed_no_log (material_in bundle) e) (λ v q l.
    refused_at (by_types (structure_of bundle policy.verify_tlog)) _ e l (types_no_log (structure_of bundle policy.verify_tlog) e) (λ u p k. cc))
signer_no_log (Certificate policy) bundle e h =
    refused_at (by_types (structure_of bundle policy.verify_tlog)) _ e h (types_no_log (structure_of bundle policy.verify_tlog) e) (λ u p k.
    refused_at (named_of (certificate_in bundle)) _ e k (named_no_log (certificate_in bundle) e) (λ (certificate : List ℕ) q l.
    refused_at (by_info (info_of certificate)) _ e l (info_no_log (info_of certificate) e) (λ info r m. cc)))

prepared_no_log : (kind : Kind) (policy : Meaning) (bundle : Bundle) (e : Error) → NoLog kind.lacking → prepared_of kind policy bundle ≡ Err e → NoLog e
unfolding prepared_of
prepared_no_log kind policy bundle e l h =
    refused_at (signer_of policy bundle) _ e h (signer_no_log policy bundle e) (λ (signer : Signer) p k. ready_no_log kind signer bundle e l k)

content_no_log : (content : SignatureContent) (b g : Bool) (e : Error) → first_refusal content b g ≡ Err e → NoLog e
content_no_log (OfMessage message) true true e k = cc
content_no_log (OfMessage message) true false e k = subst NoLog (err_same verify.SignatureInvalid e k) tt
content_no_log (OfMessage message) false g e k = subst NoLog (err_same verify.ArtifactMismatch e k) tt
content_no_log (OfEnvelope envelope) true true e k = cc
content_no_log (OfEnvelope envelope) false true e k = subst NoLog (err_same verify.ArtifactMismatch e k) tt
content_no_log (OfEnvelope envelope) b false e k = subst NoLog (err_same verify.SignatureInvalid e k) tt

module _ (terms : Terms) (bundle : Bundle) (artifact : Artifact) (fault : TransparencyLogError) where
  abbrev Has : Type 0
  Has = HasUnlogged terms.grounds (entries_in bundle) fault

  abbrev HasOther : Type 0
  HasOther = HasUndescribed terms.grounds.crypto terms.policy bundle artifact (verify.TransparencyLog fault)

  undescribed : (ready : Ready) → Prepared (kind_of artifact) terms.policy bundle ready
      → entries_described_of terms.grounds ready.signer bundle (digest_of artifact) (entries_in bundle) ≡ Err (verify.TransparencyLog fault) → HasOther
  undescribed ready p h =
      let same : ready.signer ≡ p.signer = ap (λ (r : Ready). r.signer) p.same in
      let u = entries_undescribed terms.grounds p.signer bundle artifact (entries_in bundle) (verify.TransparencyLog fault)
      (subst (λ signer. entries_described_of terms.grounds signer bundle (digest_of artifact) (entries_in bundle) ≡ Err (verify.TransparencyLog fault)) same h) in
      record { signer = p.signer; is = p.is; entry = u.entry; among = u.among; why = u.why; named = u.named; cause = u.cause }

  abbrev HasLate : Type 0
  HasLate = HasUntimely terms.policy bundle fault

  log_fault : (one two : TransparencyLogError) → verify.TransparencyLog one ≡ verify.TransparencyLog two → two ≡ one
  log_fault one two h = cc

  log_unlogged : (signer : Signer) → IsSigner terms.policy bundle signer → (asked : Bool) → log_judged_of terms.grounds signer asked (entries_in bundle) ≡ Err (verify.TransparencyLog fault)
      → Has ⊎ HasLate
  log_unlogged signer is true h = by (entries_unlogged terms.grounds signer (entries_in bundle) (verify.TransparencyLog fault) h)
    where
      by : Unlogged terms.grounds (entries_in bundle) (verify.TransparencyLog fault) ⊎ Untimely signer (entries_in bundle) (verify.TransparencyLog fault) → Has ⊎ HasLate
      by (inl u) = inl (record { entry = u.entry; among = u.among; why = u.why; named = u.named; cause = u.cause })
      by (inr u) = inr (record { signer = signer; is = is; entry = u.entry; among = u.among; untimely = u.untimely; named = log_fault log.IntegratedTime fault u.named })
  log_unlogged signer is false h = cc

  tokens_no_log : {C : Type 0} → tokens_judged_of terms.grounds (signature_in bundle.content) (tokens_in bundle) ≡ Err (verify.TransparencyLog fault) → C
  tokens_no_log h = let u = tokens_unstamped terms.grounds (signature_in bundle.content) (tokens_in bundle) (verify.TransparencyLog fault) h in cc

  verified_unlogged : verified_of terms.grounds bundle ≡ Err (verify.TransparencyLog fault) → Has
  unfolding verified_of
  verified_unlogged h =
      refused_at (tokens_judged_of terms.grounds (signature_in bundle.content) (tokens_in bundle)) _ (verify.TransparencyLog fault) h tokens_no_log (λ (stamped : List Timestamp) p k.
      refused_at (promises_judged_of terms.grounds (entries_in bundle)) _ (verify.TransparencyLog fault) k (λ r.
      let u = promises_refused terms.grounds (entries_in bundle) (verify.TransparencyLog fault) r in
      record { entry = u.entry; among = u.among; why = u.why; named = u.named; cause = u.cause }) (λ (promised : List Timestamp) q l.
      let none = none_there (stamped ++ promised) (verify.TransparencyLog fault) l in cc))

  signer_unlogged : (signer : Signer) → IsSigner terms.policy bundle signer → vouched_of terms.grounds signer bundle ≡ Err (verify.TransparencyLog fault) → Has ⊎ HasLate
  unfolding managed_vouched_of owner_vouched_of
  signer_unlogged (Managed policy) is h =
      refused_at (log_judged_of terms.grounds (Managed policy) policy.verify_tlog (entries_in bundle)) _ (verify.TransparencyLog fault) h (log_unlogged (Managed policy) is policy.verify_tlog) (λ promised p k.
      refused_at (logs_judged_of policy.verify_tlog policy.logs (log_count_of terms.grounds policy.verify_tlog (entries_in bundle))) _ (verify.TransparencyLog fault) k
      (λ c. absurd (count_no_log policy.verify_tlog policy.logs (log_count_of terms.grounds policy.verify_tlog (entries_in bundle)) (verify.TransparencyLog fault) c)) (λ u r m.
      refused_at (tokens_judged_of terms.grounds (signature_in bundle.content) (tokens_in bundle)) _ (verify.TransparencyLog fault) m tokens_no_log (λ stamped q l. cc)))
  signer_unlogged (Certified policy info certificate) is h =
      refused_at (verified_of terms.grounds bundle) _ (verify.TransparencyLog fault) h (λ v. inl (verified_unlogged v)) (λ (times : List Timestamp) p k.
      refused_at (by_certificate (certified_of (trust_in terms.grounds) policy info certificate (intermediates_in bundle) times)) _ (verify.TransparencyLog fault) k
      (λ c. absurd (certificate_no_log (certified_of (trust_in terms.grounds) policy info certificate (intermediates_in bundle) times) (verify.TransparencyLog fault) c)) (λ u q l.
      refused_at (log_judged_of terms.grounds (Certified policy info certificate) policy.verify_tlog (entries_in bundle)) _ (verify.TransparencyLog fault) l
      (log_unlogged (Certified policy info certificate) is policy.verify_tlog) (λ promised r m.
      refused_at (logs_judged_of policy.verify_tlog policy.logs (log_count_of terms.grounds policy.verify_tlog (entries_in bundle))) _ (verify.TransparencyLog fault) m
      (λ c. absurd (count_no_log policy.verify_tlog policy.logs (log_count_of terms.grounds policy.verify_tlog (entries_in bundle)) (verify.TransparencyLog fault) c)) (λ v s n. cc))))

  sorted : Has ⊎ HasLate → Has ⊎ (HasLate ⊎ HasOther)
  sorted (inl u) = inl u
  sorted (inr u) = inr (inl u)

  pub unlogged : judged_of terms bundle artifact ≡ Err (verify.TransparencyLog fault) → Has ⊎ (HasLate ⊎ HasOther)
  unfolding judged_of judged_had
  unlogged h =
      let e = verify.TransparencyLog fault in
      refused_at (prepared_of (kind_of artifact) terms.policy bundle) _ e h (λ p. absurd (prepared_no_log (kind_of artifact) terms.policy bundle e (lacking_no_log artifact) p)) (λ (ready : Ready) p k.
      refused_at (vouched_of terms.grounds ready.signer bundle) _ e k (λ v. let q = prepared_means (kind_of artifact) terms.policy bundle ready p in
      sorted (signer_unlogged q.signer q.is (subst (λ signer. vouched_of terms.grounds signer bundle ≡ Err e) (ap (λ (r : Ready). r.signer) q.same) v))) (λ (evidence : Evidence) q l.
      refused_at (content_judged_of terms.grounds.crypto.accepts ready.key bundle.content ready.claim (digest_of artifact) (bytes_of artifact)) _ e l
      (λ r. absurd (content_no_log bundle.content (is_bound ready.claim (digest_of artifact)) (is_signed terms.grounds.crypto.accepts ready.key bundle.content (digest_of artifact) (bytes_of artifact)) e r)) (λ v r m.
      refused_at (entries_described_of terms.grounds ready.signer bundle (digest_of artifact) (entries_in bundle)) _ e m
      (λ s. inr (inr (undescribed ready (prepared_means (kind_of artifact) terms.policy bundle ready p) s))) (λ w s n.
      refused_at (conditions_judged_of (conditions_in ready.signer) ready.claim evidence) _ e n
      (λ c. absurd (conditions_caused (conditions_in ready.signer) ready.claim evidence e c)) (λ x t o. cc)))))

pub log_refusals : LogRefusals
log_refusals terms bundle artifact fault h = unlogged terms bundle artifact fault h
