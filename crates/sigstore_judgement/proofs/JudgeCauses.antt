-- Each refusal of the judgement has its cause.
use Rattle.std.proofs.Common.{◌≡◌, ◌≢◌, ◌<◌, ◌⊎◌, inl, inr, ℕ, List, [], ◌∷◌, ◌++◌, Bool, true, false, ◌||◌, if◌then◌else◌, Option, Some, None, Result, Ok, Err, refl, sym, ap, ◌∙◌, subst}
use Rattle.std.specs.Prelude.{⊤, ◌&&◌, is_some, Contains}
use Rattle.std.specs.List.{list_all}
use Rattle.std.proofs.lemmas.Bool.{leb-false}
use Rattle.jiff_core.specs.declared.timestamp.Timestamp.{Timestamp}
use Rattle.foundation.specs.Watched.{Watched}
use Rattle.foundation.specs.Results.{err_same, refused_at}
use Rattle.sigstore_types_parts.specs.declared.hash_algorithm.HashAlgorithm.{HashAlgorithm}
use Rattle.sigstore_types_parts.specs.declared.error.TypesError.{TypesError}
use Rattle.sigstore_types_parts.specs.declared.error.TypesError.TheVariants as types
use Rattle.sigstore_envelopes.specs.declared.envelope.DsseEnvelope.{DsseEnvelope}
use Rattle.sigstore_envelopes.specs.declared.statement.Statement.{Statement}
use Rattle.sigstore_envelopes.specs.declared.statement.Subject.{Subject}
use Rattle.sigstore_envelopes.specs.Statement.{statement_of_bytes, algorithms_of}
use Rattle.sigstore_types.specs.declared.bundle.Bundle.{Bundle}
use Rattle.sigstore_types.specs.declared.content.SignatureContent.{SignatureContent}
use Rattle.sigstore_types.specs.declared.content.SignatureContent.TheVariants.{MessageSignature as OfMessage, DsseEnvelope as OfEnvelope}
use Rattle.sigstore_types.specs.declared.trusted_root.TrustedRoot.{TrustedRoot}
use Rattle.sigstore_types.specs.Bundle.{bundle_of_bytes, entries_in, tokens_in, has_proof, shown_of, structure_of}
use Rattle.sigstore_types.specs.TrustedRoot.{trusted_root_of_bytes}
use Rattle.sigstore_keys.specs.declared.error.Error.{Error as CryptoError}
use Rattle.sigstore_keys.specs.declared.error.Error.TheVariants as crypto
use Rattle.sigstore_keys.specs.declared.key.VerificationKey.{VerificationKey}
use Rattle.sigstore_keys.specs.declared.scheme.SigningScheme.{SigningScheme}
use Rattle.sigstore_keys.specs.declared.distinct.Threshold.{Threshold}
use Rattle.sigstore_keys.specs.Digest.{is_hashed}
use Rattle.sigstore_keys.specs.Distinct.{is_enough}
use Rattle.sigstore_keys.specs.Key.{spki_key_of}
use Rattle.sigstore_entries.specs.declared.entry.TransparencyLogEntry.{TransparencyLogEntry}
use Rattle.sigstore_log.specs.declared.error.LogError.{LogError}
use Rattle.sigstore_log.specs.declared.error.LogError.TheVariants as entry
use Rattle.sigstore_log.specs.Cause.{LogCause}
use Rattle.certificate_claims.specs.declared.certificate_info.CertificateInfo.{CertificateInfo}
use Rattle.certificate_claims.specs.Info.{info_of}
use Rattle.sigstore_certificate.specs.declared.error.CertificateRefusal.{CertificateRefusal}
use Rattle.sigstore_certificate.specs.declared.error.CertificateRefusal.TheVariants as refusal
use Rattle.sigstore_policy.specs.declared.certificate.VerificationPolicy.{VerificationPolicy}
use Rattle.sigstore_certificate.specs.Cause.{Cause as CertificateCause}
use Rattle.sigstore_certificate.specs.Certified.{certified_of}
use Rattle.sigstore_certificate.proofs.CauseLaw.{refusals as certificate_causes}
use Rattle.sigstore_binding.specs.declared.error.BindingError.{BindingError}
use Rattle.sigstore_binding.specs.declared.error.BindingError.TheVariants as binding
use Rattle.sigstore_binding.specs.Cause.{BindingCause}
use Rattle.sigstore_judgement.specs.declared.error.CertificateError.TheVariants as certificate
use Rattle.sigstore_judgement.specs.declared.error.Error.{Error}
use Rattle.sigstore_judgement.specs.declared.error.Error.TheVariants as verify
use Rattle.sigstore_judgement.specs.declared.error.TransparencyLogError.{TransparencyLogError}
use Rattle.sigstore_judgement.specs.declared.error.TransparencyLogError.TheVariants as log
use Rattle.sigstore_judgement.specs.declared.evidence.Evidence.{Evidence}
use Rattle.sigstore_policy.specs.declared.public_key.PublicKeyVerificationPolicy.{PublicKeyVerificationPolicy}
use Rattle.sigstore_judgement.specs.declared.trust.Material.{Material}
use Rattle.sigstore_judgement.specs.Artifact.{Read, read_kind, digest_of}
use Rattle.sigstore_judgement.specs.Cause.{IsRefusedAs, IsRead, IsKept, HasSigner, HasScheme, LacksScheme, key_unread, no_scheme, no_hasher, LacksEntry, no_entry, no_proof, IsOfPromise}
use Rattle.sigstore_judgement.specs.Cause.{unread, no_statement, no_subject, other_type, no_digest, IsUndescribed, IsUncertified, IsUnmet, JudgeCause}
use Rattle.sigstore_judgement.specs.Claim.{Claim, is_in_toto, typed_of, or_invalid, subjects_of, digested_of, statement_judged_of, stated_of, claim_of, needed_of, is_bound}
use Rattle.sigstore_judgement.specs.Conditions.{conditions_judged_of, ConditionCause}
use Rattle.sigstore_judgement.specs.Content.{scheme_of, signs_digest, supported_of, signature_in, signed_in, is_signed, first_refusal, content_judged_of}
use Rattle.sigstore_judgement.specs.Entries.{log_judged_of, vouching_logs, log_count_of, logs_judged_of, entries_described_of}
use Rattle.sigstore_judgement.specs.Error.{error_of_crypto, error_of_info, error_of_certificate, error_of_log, error_of_binding, lowered, by_types, by_crypto, by_info, by_certificate}
use Rattle.sigstore_judgement.specs.Grounds.{Grounds, trust_in, readings_in}
use Rattle.sigstore_judgement.specs.Judged.{Ready, claimed_of, ready_of, prepared_of, managed_vouched_of, intermediates_in, owner_vouched_of, vouched_of, judged_had, judged_of}
use Rattle.sigstore_policy.specs.Policy.{Meaning, PublicKey, Certificate, asks_log, logs_asked}
use Rattle.sigstore_judgement.specs.Promise as promise
use Rattle.sigstore_judgement.specs.Signer.{Signer, Managed, Certified, conditions_in, key_in, material_in, certificate_in, keyed_of, named_of, signatory_of, managed_of, owner_of, signer_of, IsSigner}
use Rattle.sigstore_judgement.specs.Tokens.{tokens_judged_of}
use Rattle.sigstore_judgement.specs.Trust.{material_of}
use Rattle.sigstore_judgement.specs.Verified.{promises_judged_of, some_time, verified_of, AreVerified}
use Rattle.sigstore_judgement.specs.Under.{or_fault, trust_fault, bundle_fault, Asked, terms_of, JudgesBundle, trust_refused, verifier_refused, bundle_refused, judged}
use Rattle.sigstore_judgement.proofs.Accepts.{ok_crypto, named_means, signer_means, Prepared, prepared_means, vouches_means}
use Rattle.sigstore_judgement.proofs.ClaimLaw.{of_other}
use Rattle.sigstore_judgement.proofs.ConditionLaw.{conditions_caused}
use Rattle.sigstore_judgement.proofs.DescribedCauses.{entries_undescribed}
use Rattle.sigstore_judgement.proofs.EntryCauses.{among_first, among_later, Unlogged, Untimely, entries_unlogged}
use Rattle.sigstore_judgement.proofs.ReadMaterial.{unkeyed, read_signs}
use Rattle.sigstore_judgement.proofs.TokenLaw.{are_stamped, tokens_unstamped}
use Rattle.sigstore_judgement.proofs.UsableCauses.{IsFault, material_fault}
use Rattle.sigstore_judgement.proofs.VerifiedLaw.{each_told, Unpromised, promises_refused, none_there, none_joined, no_tokens, verified_means}
use Rattle.sigstore_judgement.proofs.Wanting.{is_want}

by_fault : {T : Type 0} (fault : TypesError → Error) (r : Result T TypesError) (e : Error) → or_fault fault r ≡ Err e → IsRefusedAs fault r e
by_fault fault (Ok x) e h = cc
by_fault fault (Err t) e h = (t, refl, err_same (fault t) e h)

pub read_of : {T : Type 0} (fault : TypesError → Error) (r : Result T TypesError) (x : T) → or_fault fault r ≡ Ok x → r ≡ Ok x
read_of fault (Ok y) x h = let same : y ≡ x = cc in ap Ok same
read_of fault (Err e) x h = cc

pub through_crypto : {A : Type 0} (r : Result A CryptoError) (e : Error) → by_crypto r ≡ Err e → IsRefusedAs error_of_crypto r e
through_crypto (Ok x) e h = cc
through_crypto (Err t) e h = (t, refl, err_same (error_of_crypto t) e h)

abbrev pub IsKind : Error → Type 0
IsKind e = (e ≡ verify.Crypto) ⊎ (e ≡ verify.NoMemory)

-- what a refusal of the crate of keys is here
pub as_crypto : (x : CryptoError) → IsKind (error_of_crypto x)
as_crypto crypto.Signing = inl refl
as_crypto (crypto.Verification a) = inl refl
as_crypto crypto.InvalidKeyFormat = inl refl
as_crypto crypto.UnsupportedAlgorithm = inl refl
as_crypto (crypto.Checkpoint a) = inl refl
as_crypto (crypto.InvalidCertificate a) = inl refl
as_crypto (crypto.InvalidKey a) = inl refl
as_crypto crypto.NoMemory = inr refl

abbrev pub IsMute : Error → Type 0
IsMute e = (e ≡ verify.Certificate certificate.Malformed) ⊎ (e ≡ verify.NoMemory)

-- and where a certificate says nothing
pub as_info : (x : CryptoError) → IsMute (error_of_info x)
as_info crypto.Signing = inl refl
as_info (crypto.Verification a) = inl refl
as_info crypto.InvalidKeyFormat = inl refl
as_info crypto.UnsupportedAlgorithm = inl refl
as_info (crypto.Checkpoint a) = inl refl
as_info (crypto.InvalidCertificate a) = inl refl
as_info (crypto.InvalidKey a) = inl refl
as_info crypto.NoMemory = inr refl

pub through_info : {A : Type 0} (r : Result A CryptoError) (e : Error) → by_info r ≡ Err e → IsRefusedAs error_of_info r e
through_info (Ok x) e h = cc
through_info (Err t) e h = (t, refl, err_same (error_of_info t) e h)

pub through_certificate : {A : Type 0} (r : Result A CertificateRefusal) (e : Error) → by_certificate r ≡ Err e → IsRefusedAs error_of_certificate r e
through_certificate (Ok x) e h = cc
through_certificate (Err t) e h = (t, refl, err_same (error_of_certificate t) e h)

-- what a refusal of the crates of values is here
abbrev pub IsLowered : Error → TypesError → Type 0
IsLowered otherwise x =
    (lowered otherwise x ≡ verify.NoMemory) ⊎ (lowered otherwise x ≡ otherwise)

pub as_lowered : (otherwise : Error) (x : TypesError) → IsLowered otherwise x
as_lowered o types.Json = inr refl
as_lowered o types.Float = inr refl
as_lowered o (types.Field a) = inr refl
as_lowered o types.Base64 = inr refl
as_lowered o types.Hex = inr refl
as_lowered o (types.Length a b) = inr refl
as_lowered o types.MediaType = inr refl
as_lowered o types.Kind = inr refl
as_lowered o (types.Checkpoint a) = inr refl
as_lowered o types.NoEntry = inr refl
as_lowered o types.NoProof = inr refl
as_lowered o types.NoMemory = inl refl

-- what of a content refuses
first_refused : {C : Type 0} (content : SignatureContent) (b g : Bool) (e : Error) → first_refusal content b g ≡ Err e
    → (b ≡ false → verify.ArtifactMismatch ≡ e → C) → (g ≡ false → verify.SignatureInvalid ≡ e → C) → C
first_refused (OfMessage message) true true e h other unsigned = cc
first_refused (OfMessage message) true false e h other unsigned = unsigned refl (err_same verify.SignatureInvalid e h)
first_refused (OfMessage message) false g e h other unsigned = other refl (err_same verify.ArtifactMismatch e h)
first_refused (OfEnvelope envelope) true true e h other unsigned = cc
first_refused (OfEnvelope envelope) false true e h other unsigned = other refl (err_same verify.ArtifactMismatch e h)
first_refused (OfEnvelope envelope) b false e h other unsigned = unsigned refl (err_same verify.SignatureInvalid e h)

-- one of these fails the test
not_all : {A : Type 0} (p : A → Bool) (xs : List A) → list_all p xs ≡ false → (x : A) × Contains xs x × (p x ≡ false)
not_all p [] h = cc
not_all {A} p (x ∷ xs) h = by (p x) refl (not_all p xs)
  where
    by : (b : Bool) → p x ≡ b → (list_all p xs ≡ false → (y : A) × Contains xs y × (p y ≡ false)) → (y : A) × Contains (x ∷ xs) y × (p y ≡ false)
    by true e later =
        let rest = later (ap (λ b. b && list_all p xs) (sym e) ∙ h) in
        (rest.0, among_later x xs rest.0 rest.1, rest.2)
    by false e later = (x, among_first x xs, e)

not_some : {A : Type 0} (o : Option A) → is_some o ≡ false → o ≡ None
not_some None h = refl
not_some (Some x) h = cc

abbrev shown_if : Bool → Result ⊤ TypesError
shown_if all = if all then Ok tt else Err types.NoProof

-- what isn't there is a lack of the bundle
lacks_bundle : (entries : List TransparencyLogEntry) (e : Error) → by_types (shown_of entries) ≡ Err e → verify.Bundle ≡ e
lacks_bundle [] e h = err_same verify.Bundle e h
lacks_bundle (x ∷ xs) e h = by (list_all has_proof (x ∷ xs)) h
  where
    by : (b : Bool) → by_types (shown_if b) ≡ Err e → verify.Bundle ≡ e
    by true k = cc
    by false k = err_same verify.Bundle e k

module _ (asked : Asked) (file : List ℕ) (source source' : Watched (List ℕ)) where
  abbrev Cause : Error → Type 0
  Cause e = JudgeCause asked file source source' e

  wanted : Cause verify.NoMemory
  wanted = inl tt

  wants : (e : Error) → (e ≢ verify.NoMemory → Cause e) → Cause e
  wants e f = by (is_want e)
    where
      by : (e ≡ verify.NoMemory) ⊎ (e ≢ verify.NoMemory) → Cause e
      by (inl is) = subst Cause (sym is) wanted
      by (inr other) = f other

  -- ---- the trust file and the bundle's bytes

  by_trust : (e : Error) (x : TypesError) → trusted_root_of_bytes file ≡ Err x → trust_fault x ≡ e → IsLowered verify.TrustRoot x → Cause e
  by_trust e x h q (inl want) = subst Cause (sym want ∙ q) wanted
  by_trust e x h q (inr is) = subst Cause (sym is ∙ q) (inl (x, h, is))

  by_bundle : (e : Error) (x : TypesError) → bundle_of_bytes asked.bundle ≡ Err x → bundle_fault x ≡ e → IsLowered verify.InvalidBundle x → Cause e
  by_bundle e x h q (inl want) = subst Cause (sym want ∙ q) wanted
  by_bundle e x h q (inr is) = subst Cause (sym is ∙ q) (inl (unread (x, h, is)))

  -- a verifier's making, by what it may refuse
  by_usable : (trust : TrustedRoot) (e : Error) → trusted_root_of_bytes file ≡ Ok trust → material_of trust ≡ Err e → IsFault e → Cause e
  by_usable trust (verify.IdentityMismatch a b) t h f = absurd f
  by_usable trust (verify.IssuerMismatch a b) t h f = absurd f
  by_usable trust verify.SignatureInvalid t h f = absurd f
  by_usable trust verify.ArtifactMismatch t h f = absurd f
  by_usable trust verify.UnsupportedArtifact t h f = absurd f
  by_usable trust (verify.Certificate a) t h f = absurd f
  by_usable trust (verify.TransparencyLog a) t h f = absurd f
  by_usable trust (verify.Timestamp a) t h f = absurd f
  by_usable trust verify.InvalidBundle t h f = absurd f
  by_usable trust verify.UnsupportedBundle t h f = absurd f
  by_usable trust verify.InvalidTrustRoot t h f = inl (trust, t, h)
  by_usable trust verify.Types t h f = inl (trust, t, h)
  by_usable trust verify.Crypto t h f = inl (trust, t, h)
  by_usable trust verify.Bundle t h f = absurd f
  by_usable trust verify.TrustRoot t h f = absurd f
  by_usable trust verify.TrustedCertificate t h f = inl (trust, t, h)
  by_usable trust (verify.ArtifactRead a) t h f = absurd f
  by_usable trust (verify.TooFewLogs a b) t h f = absurd f
  by_usable trust (verify.ClaimMismatch a b c) t h f = absurd f
  by_usable trust (verify.PredicateMismatch a b) t h f = absurd f
  by_usable trust (verify.TooFewTimes a b) t h f = absurd f
  by_usable trust (verify.TooFewTokens a b) t h f = absurd f
  by_usable trust (verify.TimeOutside a) t h f = absurd f
  by_usable trust verify.NoMemory t h f = wanted

  -- ---- the signer, their key and its scheme

  -- the refusal of a lower call, by what it is here
  by_kind : (d e : Error) → d ≡ e → IsKind d → LacksScheme asked e → Cause e
  by_kind d e same (inl is) l = subst Cause (sym (sym same ∙ is)) (inr (subst (LacksScheme asked) (sym same ∙ is) l))
  by_kind d e same (inr is) l = subst Cause (sym (sym same ∙ is)) wanted

  by_scheme : (e : Error) → LacksScheme asked e → Cause e
  by_scheme e (key_unread has r) = by_kind (error_of_crypto r.0) e r.2 (as_crypto r.0) (key_unread has r)
  by_scheme e (no_scheme has key k r) = by_kind (error_of_crypto r.0) e r.2 (as_crypto r.0) (no_scheme has key k r)
  by_scheme e (no_hasher is claim claims lacking same) = subst Cause (sym same) (inr (no_hasher is claim claims lacking refl))

  -- the log is asked for
  unshown : (reading : Bundle) → IsRead asked.bundle reading → asks_log asked.policy ≡ true → (entries : List TransparencyLogEntry) → entries_in reading ≡ entries → (e : Error)
      → by_types (shown_of entries) ≡ Err e → LacksEntry asked
  unshown reading read asks [] is e h = no_entry reading read asks is
  unshown reading read asks (x ∷ xs) is e h = by (list_all has_proof (x ∷ xs)) refl h
    where
      by : (b : Bool) → list_all has_proof (x ∷ xs) ≡ b → by_types (shown_if b) ≡ Err e → LacksEntry asked
      by true all k = cc
      by false all k =
          let one = not_all has_proof (x ∷ xs) all in
          no_proof reading one.0 read asks (subst (λ entries. Contains entries one.0) (sym is) one.1) (not_some (one.0).inclusion_proof one.2)

  unstructured : (reading : Bundle) → IsRead asked.bundle reading → (b : Bool) → asks_log asked.policy ≡ b → (e : Error) → by_types (structure_of reading b) ≡ Err e → Cause e
  unstructured reading read true asks e h = subst Cause (lacks_bundle (entries_in reading) e h) (inr (unshown reading read asks (entries_in reading) refl e h))
  unstructured reading read false asks e h = cc

  -- the policy is for a key, and there is a certificate
  met : (reading : Bundle) → IsRead asked.bundle reading → (policy : PublicKeyVerificationPolicy) → asked.policy ≡ PublicKey policy
      → (e : Error) → keyed_of (material_in reading) ≡ Err e → Cause e
  met reading read policy under e h =
      let signs = read_signs asked.bundle reading read e h in
      subst Cause (unkeyed (material_in reading) e h) (inr (inl (record { policy = policy; under = under; reading = reading; read = read; certificate = signs.0; has = signs.1 })))

  -- the policy is for certificates, and there is none
  unnamed : (reading : Bundle) → IsRead asked.bundle reading → (policy : VerificationPolicy) → asked.policy ≡ Certificate policy → (o : Option (List ℕ)) → certificate_in reading ≡ o
      → (e : Error) → named_of o ≡ Err e → Cause e
  unnamed reading read policy under None is e h =
      subst Cause (err_same verify.InvalidBundle e h) (inr (record { policy = policy; under = under; reading = reading; read = read; none = is }))
  unnamed reading read policy under (Some certificate) is e h = cc

  -- and one that says nothing
  mute : (reading : Bundle) → IsRead asked.bundle reading → (policy : VerificationPolicy) → asked.policy ≡ Certificate policy → (certificate : List ℕ) → certificate_in reading ≡ Some certificate
      → (x : CryptoError) → info_of certificate ≡ Err x → (e : Error) → error_of_info x ≡ e → IsMute (error_of_info x) → Cause e
  mute reading read policy under certificate has x h e q (inl is) = subst Cause (sym is ∙ q) (inr (inl (record {
    policy = policy;
    under = under;
    reading = reading;
    read = read;
    certificate = certificate;
    has = has;
    unread = (x, h, is);
  })))
  mute reading read policy under certificate has x h e q (inr is) = subst Cause (sym is ∙ q) wanted

  nobody : (reading : Bundle) → IsRead asked.bundle reading → (policy : Meaning) → asked.policy ≡ policy → (e : Error) → signer_of policy reading ≡ Err e → Cause e
  unfolding managed_of owner_of
  nobody reading read (PublicKey policy) under e h =
      refused_at (keyed_of (material_in reading)) _ e h (met reading read policy under e) (λ v q l.
      refused_at (by_types (structure_of reading policy.verify_tlog)) _ e l (unstructured reading read policy.verify_tlog (ap asks_log under) e) (λ u p k. cc))
  nobody reading read (Certificate policy) under e h =
      refused_at (by_types (structure_of reading policy.verify_tlog)) _ e h (unstructured reading read policy.verify_tlog (ap asks_log under) e) (λ u p k.
      refused_at (named_of (certificate_in reading)) _ e k (unnamed reading read policy under (certificate_in reading) refl e) (λ (certificate : List ℕ) q l.
      refused_at (by_info (info_of certificate)) _ e l (λ n. let x = through_info (info_of certificate) e n in
      mute reading read policy under certificate (named_means (certificate_in reading) certificate q) x.0 x.1 e x.2 (as_info x.0)) (λ info r m. cc)))

  -- the artifact can't be judged
  unsupported : (is : HasScheme asked) (claim : Claim) → claim_of is.has.reading.content ≡ Ok claim
      → (a b : Bool) → signs_digest is.scheme is.has.reading.content ≡ a → list_all is_hashed (needed_of is.scheme claim) ≡ b → (e : Error)
      → ◌≡◌ {A = Result ⊤ Error} (if a || false then (if b then Ok tt else Err verify.Crypto) else Err verify.UnsupportedArtifact) (Err e) → Cause e
  unsupported is claim claims true true has hashed e h = cc
  unsupported is claim claims true false has hashed e h = by_scheme e (no_hasher is claim claims hashed (sym (err_same verify.Crypto e h)))
  unsupported is claim claims false b has hashed e h = subst Cause (err_same verify.UnsupportedArtifact e h) (inr (record { is = is; lacking = has }))

  -- an envelope's payload isn't a statement of something that has a digest
  module _ (reading : Bundle) (read : IsRead asked.bundle reading) (envelope : DsseEnvelope) (of : reading.content ≡ OfEnvelope envelope) where
    untyped : (b : Bool) → is_in_toto envelope.payload_type ≡ b → (e : Error)
        → ◌≡◌ {A = Result ⊤ Error} (if b then Ok tt else Err verify.UnsupportedBundle) (Err e) → Cause e
    untyped true is e h = cc
    untyped false is e h = subst Cause (err_same verify.UnsupportedBundle e h) (inl (other_type reading envelope read of is))

    unread_statement : (r : Result Statement TypesError) → statement_of_bytes envelope.payload ≡ r → (e : Error) → or_invalid r ≡ Err e → Cause e
    unread_statement (Ok statement) is e h = cc
    unread_statement (Err t) is e h = subst Cause (err_same verify.InvalidBundle e h) (inl (no_statement reading envelope t read of is))

    read_statement : (r : Result Statement TypesError) (statement : Statement) → or_invalid r ≡ Ok statement → r ≡ Ok statement
    read_statement (Ok x) statement h = cc
    read_statement (Err t) statement h = cc

    module _ (statement : Statement) (is : statement_of_bytes envelope.payload ≡ Ok statement) where
      unsubjected : (subjects : List Subject) → statement.subjects ≡ subjects → (e : Error) → subjects_of subjects ≡ Err e → Cause e
      unsubjected [] none e h = subst Cause (err_same verify.InvalidBundle e h) (inl (no_subject reading envelope statement read of is none))
      unsubjected (subject ∷ subjects) some e h = cc

      undigested : (algorithms : List HashAlgorithm) → algorithms_of statement ≡ algorithms → (e : Error) → digested_of algorithms ≡ Err e → Cause e
      undigested [] none e h = subst Cause (err_same verify.UnsupportedBundle e h) (inl (no_digest reading envelope statement read of is none))
      undigested (algorithm ∷ algorithms) some e h = cc

    unstated : (e : Error) → stated_of envelope ≡ Err e → Cause e
    unfolding stated_of
    unstated e h =
        refused_at (typed_of envelope.payload_type) _ e h (untyped (is_in_toto envelope.payload_type) refl e) (λ t p k.
        refused_at (or_invalid (statement_of_bytes envelope.payload)) _ e k (unread_statement (statement_of_bytes envelope.payload) refl e) (λ (statement : Statement) q l.
        let is = read_statement (statement_of_bytes envelope.payload) statement q in
        refused_at (statement_judged_of statement) _ e l (λ j.
        refused_at (subjects_of statement.subjects) _ e j (unsubjected statement is statement.subjects refl e)
        (λ u r m. undigested statement is (algorithms_of statement) refl e m)) (λ v s n. cc)))

  -- what a bundle says of its artifact isn't read
  unclaimed : (reading : Bundle) → IsRead asked.bundle reading → (content : SignatureContent) → reading.content ≡ content → (e : Error) → claim_of content ≡ Err e → Cause e
  unclaimed reading read (OfMessage message) of e h = cc
  unclaimed reading read (OfEnvelope envelope) of e h =
      refused_at (stated_of envelope) _ e h (unstated reading read envelope of e) (λ statement p k. cc)

  unready : (has : HasSigner asked) (e : Error) → ready_of read_kind has.signer has.reading ≡ Err e → Cause e
  unfolding ready_of
  unready has e h =
      let content = has.reading.content in
      refused_at (by_crypto (spki_key_of (key_in has.signer))) _ e h (λ q. by_scheme e (key_unread has (through_crypto (spki_key_of (key_in has.signer)) e q))) (λ (key : VerificationKey) q l.
      let known = ok_crypto (spki_key_of (key_in has.signer)) key q in
      refused_at (by_crypto (scheme_of key.scheme content)) _ e l (λ r. by_scheme e (no_scheme has key known (through_crypto (scheme_of key.scheme content) e r))) (λ (scheme : SigningScheme) r m.
      let is : HasScheme asked = record { has = has; key = key; key_read = known; scheme = scheme; chosen = ok_crypto (scheme_of key.scheme content) scheme r } in
      refused_at (claimed_of read_kind scheme content) _ e m (λ c.
      refused_at (claim_of content) _ e c (unclaimed has.reading has.read content refl e) (λ (claim : Claim) s n.
      refused_at (supported_of read_kind (signs_digest scheme content) (needed_of scheme claim)) _ e n
      (unsupported is claim s (signs_digest scheme content) (list_all is_hashed (needed_of scheme claim)) refl refl e) (λ u t o. cc))) (λ claim s n. cc)))

  pub unprepared : (reading : Bundle) → IsRead asked.bundle reading → (e : Error) → prepared_of read_kind asked.policy reading ≡ Err e → Cause e
  unfolding prepared_of
  unprepared reading read e h =
      refused_at (signer_of asked.policy reading) _ e h (nobody reading read asked.policy refl e) (λ (signer : Signer) p k.
      unready (record { reading = reading; read = read; signer = signer; is = signer_means asked.policy reading signer p }) e k)

  -- ---- by the artifact

  module _ (reading : Bundle) (read : IsRead asked.bundle reading) (bytes : List ℕ) (whole : promise.ReadWhole source source' asked.max bytes) where
    -- the content is another's, or isn't signed
    unaccepted : (ready : Ready) → Prepared read_kind asked.policy reading ready → (e : Error)
        → content_judged_of asked.crypto.accepts ready.key reading.content ready.claim (digest_of (Read bytes)) None ≡ Err e → Cause e
    unaccepted ready p e h =
        let claim : ready.claim ≡ p.claim = ap (λ (r : Ready). r.claim) p.same in
        first_refused reading.content (is_bound ready.claim (digest_of (Read bytes))) (is_signed asked.crypto.accepts ready.key reading.content (digest_of (Read bytes)) None) e h
        (λ other same. subst Cause same (inr (inl (record {
          reading = reading;
          read = read;
          claim = p.claim;
          claims = p.claims;
          bytes = bytes;
          whole = whole;
          other = of_other p.claim (Read bytes) (ap (λ claim. is_bound claim (digest_of (Read bytes))) (sym claim) ∙ other);
        }))))
        (λ unsigned same. subst Cause same (inr (record {
          is = record { has = record { reading = reading; read = read; signer = p.signer; is = p.is }; key = p.key; key_read = p.read; scheme = p.scheme; chosen = p.chosen };
          bytes = bytes;
          whole = whole;
          unsigned = ap (λ (r : Ready). is_signed asked.crypto.accepts r.key reading.content (digest_of (Read bytes)) None) (sym p.same) ∙ unsigned;
        })))

    -- an entry isn't logged, or at a time that isn't the signer's
    unlogged : (material : Material) → IsKept file material → (signer : Signer) → IsSigner asked.policy reading signer → (b : Bool) → asks_log asked.policy ≡ b → (e : Error)
        → log_judged_of (terms_of asked material).grounds signer b (entries_in reading) ≡ Err e → Cause e
    unlogged material kept signer is true asks e h = either (entries_unlogged (terms_of asked material).grounds signer (entries_in reading) e h)
      where
        as_is : (x : TransparencyLogEntry) → Contains (entries_in reading) x → (why : LogError) → LogCause asked.crypto.accepts material.logs asked.now x why → (fault : TransparencyLogError)
            → error_of_log why ≡ verify.TransparencyLog fault → Cause (verify.TransparencyLog fault)
        as_is x among why cause fault named = inr (inl (inl (record {
          material = material;
          kept = kept;
          reading = reading;
          read = read;
          bytes = bytes;
          whole = whole;
          asks = asks;
          unlogged = record { entry = x; among = among; why = why; named = named; cause = cause };
        })))

        by_why : (x : TransparencyLogEntry) → Contains (entries_in reading) x → (why : LogError) → LogCause asked.crypto.accepts material.logs asked.now x why → Cause (error_of_log why)
        by_why x among entry.InclusionProof cause = as_is x among entry.InclusionProof cause log.InclusionProof refl
        by_why x among entry.Checkpoint cause = as_is x among entry.Checkpoint cause log.Checkpoint refl
        by_why x among entry.MalformedEntry cause = as_is x among entry.MalformedEntry cause log.MalformedEntry refl
        by_why x among (entry.UnknownLog id) cause = as_is x among (entry.UnknownLog id) cause (log.UnknownLog id) refl
        by_why x among entry.InclusionPromise cause = as_is x among entry.InclusionPromise cause log.InclusionPromise refl
        by_why x among entry.IntegratedTime cause = as_is x among entry.IntegratedTime cause log.IntegratedTime refl
        by_why x among entry.NoMemory cause = absurd cause

        either : Unlogged (terms_of asked material).grounds (entries_in reading) e ⊎ Untimely signer (entries_in reading) e → Cause e
        either (inl u) = subst Cause u.named (by_why u.entry u.among u.why u.cause)
        either (inr u) = subst Cause u.named (inr (inr (inl (record {
          reading = reading;
          read = read;
          bytes = bytes;
          whole = whole;
          asks = asks;
          untimely = record { signer = signer; is = is; entry = u.entry; among = u.among; untimely = u.untimely; named = refl };
        }))))
    unlogged material kept signer is false asks e h = cc

    -- the entries stand in too few logs
    too_few : (material : Material) → IsKept file material → (b : Bool) → asks_log asked.policy ≡ b → (threshold : Threshold) → logs_asked asked.policy ≡ threshold → (e : Error)
        → logs_judged_of b threshold (log_count_of (terms_of asked material).grounds b (entries_in reading)) ≡ Err e → Cause e
    too_few material kept true asks threshold same e h = by (is_enough threshold found) (leb-false threshold.value found) h
      where
        found : ℕ
        found = vouching_logs (terms_of asked material).grounds (entries_in reading)

        by : (b : Bool) → (b ≡ false → found < threshold.value) → ◌≡◌ {A = Result ⊤ Error} (if b then Ok tt else Err (verify.TooFewLogs threshold.value found)) (Err e) → Cause e
        by true few k = cc
        by false few k = subst Cause (err_same (verify.TooFewLogs threshold.value found) e k) (inr (record {
          material = material;
          kept = kept;
          reading = reading;
          read = read;
          bytes = bytes;
          whole = whole;
          asks = asks;
          threshold = ap (λ (t : Threshold). t.value) (sym same);
          count = refl;
          few = few refl;
        }))
    too_few material kept false asks threshold same e h = cc

    -- a token isn't a trusted authority's
    unstamped : (material : Material) → IsKept file material → (e : Error)
        → tokens_judged_of (terms_of asked material).grounds (signature_in reading.content) (tokens_in reading) ≡ Err e → Cause e
    unstamped material kept e h =
        let u = tokens_unstamped (terms_of asked material).grounds (signature_in reading.content) (tokens_in reading) e h in
        subst Cause u.named (inr (inl (record {
          material = material;
          kept = kept;
          reading = reading;
          read = read;
          bytes = bytes;
          whole = whole;
          token = u.token;
          among = u.among;
          why = u.why;
        })))

    -- under a certificate
    module _ (material : Material) (kept : IsKept file material) (policy : VerificationPolicy) (under : asked.policy ≡ Certificate policy) (certificate : List ℕ) (info : CertificateInfo)
        (has : certificate_in reading ≡ Some certificate) (says : info_of certificate ≡ Ok info) where
      abbrev grounds : Grounds
      grounds = (terms_of asked material).grounds

      -- a promise that tells a time isn't its log's
      unpromised : (e : Error) → promises_judged_of grounds (entries_in reading) ≡ Err e → Cause e
      unpromised e h = let u = promises_refused grounds (entries_in reading) e h in subst Cause u.named (by_why u u.why u.of_promise u.cause)
        where
          as_is : (u : Unpromised grounds (entries_in reading) e) (why : LogError) → IsOfPromise why → LogCause asked.crypto.accepts material.logs asked.now u.entry why → (fault : TransparencyLogError)
              → error_of_log why ≡ verify.TransparencyLog fault → Cause (verify.TransparencyLog fault)
          as_is u why may cause fault named = inr (inl (inr (record {
            material = material;
            kept = kept;
            policy = policy;
            under = under;
            reading = reading;
            read = read;
            bytes = bytes;
            whole = whole;
            entry = u.entry;
            among = u.among;
            time = u.time;
            tells = u.tells;
            why = why;
            of_promise = may;
            named = named;
            cause = cause;
          })))

          by_why : (u : Unpromised grounds (entries_in reading) e) (why : LogError) → IsOfPromise why → LogCause asked.crypto.accepts material.logs asked.now u.entry why → Cause (error_of_log why)
          by_why u entry.InclusionProof may cause = absurd may
          by_why u entry.Checkpoint may cause = absurd may
          by_why u entry.MalformedEntry may cause = as_is u entry.MalformedEntry may cause log.MalformedEntry refl
          by_why u (entry.UnknownLog id) may cause = as_is u (entry.UnknownLog id) may cause (log.UnknownLog id) refl
          by_why u entry.InclusionPromise may cause = as_is u entry.InclusionPromise may cause log.InclusionPromise refl
          by_why u entry.IntegratedTime may cause = as_is u entry.IntegratedTime may cause log.IntegratedTime refl
          by_why u entry.NoMemory may cause = absurd cause

      -- there is no time
      timeless : (stamped promised : List Timestamp) → tokens_judged_of grounds (signature_in reading.content) (tokens_in reading) ≡ Ok stamped
          → promises_judged_of grounds (entries_in reading) ≡ Ok promised → (e : Error) → some_time (stamped ++ promised) ≡ Err e → Cause e
      timeless stamped promised t p e h =
          let none = none_there (stamped ++ promised) e h in
          let both = none_joined stamped promised none.0 in
          subst Cause none.1 (inr (inr (record {
            policy = policy;
            under = under;
            reading = reading;
            read = read;
            bytes = bytes;
            whole = whole;
            tokens = no_tokens (tokens_in reading) grounds (signature_in reading.content) stamped (are_stamped grounds (signature_in reading.content) (tokens_in reading) stamped t) both.0;
            promises = sym (each_told grounds (entries_in reading) promised p).1 ∙ both.1;
            named = refl;
          })))

      unverified : (e : Error) → verified_of grounds reading ≡ Err e → Cause e
      unfolding verified_of
      unverified e h =
          refused_at (tokens_judged_of grounds (signature_in reading.content) (tokens_in reading)) _ e h (unstamped material kept e) (λ (stamped : List Timestamp) p k.
          refused_at (promises_judged_of grounds (entries_in reading)) _ e k (unpromised e) (λ (promised : List Timestamp) q l. timeless stamped promised p q e l))

      -- the certificate isn't to be accepted
      uncertified : (times : List Timestamp) → AreVerified grounds reading times → (e : Error)
          → by_certificate (certified_of (trust_in grounds) policy info certificate (intermediates_in reading) times) ≡ Err e → Cause e
      uncertified times verified e h =
          let d = through_certificate (certified_of (trust_in grounds) policy info certificate (intermediates_in reading) times) e h in
          subst Cause d.2 (by_why d.0 (certificate_causes (trust_in grounds) policy info certificate (intermediates_in reading) times d.0 d.1))
        where
          as_is : (why : CertificateRefusal) → CertificateCause (trust_in grounds) policy info certificate (intermediates_in reading) times why
              → IsUncertified asked file source source' (error_of_certificate why)
          as_is why cause = record {
            material = material;
            kept = kept;
            reading = reading;
            read = read;
            bytes = bytes;
            whole = whole;
            policy = policy;
            under = under;
            certificate = certificate;
            has = has;
            info = info;
            says = says;
            times = times;
            verified = verified;
            why = why;
            named = refl;
            cause = cause;
          }

          by_why : (why : CertificateRefusal) → CertificateCause (trust_in grounds) policy info certificate (intermediates_in reading) times why → Cause (error_of_certificate why)
          by_why refusal.Malformed cause = inr (inr (as_is refusal.Malformed cause))
          by_why refusal.ChainInvalid cause = inr (inr (as_is refusal.ChainInvalid cause))
          by_why refusal.NoTime cause = absurd (verified.some cause.1)
          by_why (refusal.NoValidAuthority time) cause = inr (inr (as_is (refusal.NoValidAuthority time) cause))
          by_why (refusal.NotYetValid time not_before) cause = inr (inr (as_is (refusal.NotYetValid time not_before) cause))
          by_why (refusal.Expired time not_after) cause = inr (inr (as_is (refusal.Expired time not_after) cause))
          by_why (refusal.Sct rule) cause = inr (inr (as_is (refusal.Sct rule) cause))
          by_why refusal.InvalidTrustRoot cause = inr (as_is refusal.InvalidTrustRoot cause)
          by_why (refusal.IdentityMismatch expected actual) cause = inr (as_is (refusal.IdentityMismatch expected actual) cause)
          by_why (refusal.IssuerMismatch expected actual) cause = inr (as_is (refusal.IssuerMismatch expected actual) cause)
          by_why (refusal.ClaimMismatch name expected actual) cause = inr (as_is (refusal.ClaimMismatch name expected actual) cause)
          by_why refusal.NoMemory cause = absurd cause

      unowned : IsSigner asked.policy reading (Certified policy info certificate) → (e : Error) → owner_vouched_of grounds policy info certificate reading ≡ Err e → Cause e
      unfolding owner_vouched_of
      unowned is e h =
          refused_at (verified_of grounds reading) _ e h (unverified e) (λ (times : List Timestamp) p k.
          refused_at (by_certificate (certified_of (trust_in grounds) policy info certificate (intermediates_in reading) times)) _ e k
          (uncertified times (verified_means grounds reading times p) e) (λ u q l.
          refused_at (log_judged_of grounds (Certified policy info certificate) policy.verify_tlog (entries_in reading)) _ e l
          (unlogged material kept (Certified policy info certificate) is policy.verify_tlog (ap asks_log under) e) (λ promised r m.
          refused_at (logs_judged_of policy.verify_tlog policy.logs (log_count_of grounds policy.verify_tlog (entries_in reading))) _ e m
          (too_few material kept policy.verify_tlog (ap asks_log under) policy.logs (ap logs_asked under) e) (λ v s n. cc))))

    -- nothing vouches for the signer
    unvouched : (material : Material) → IsKept file material → (policy : Meaning) → asked.policy ≡ policy → (signer : Signer) → IsSigner policy reading signer → (e : Error)
        → vouched_of (terms_of asked material).grounds signer reading ≡ Err e → Cause e
    unfolding managed_vouched_of
    unvouched material kept (PublicKey policy) under signer i e h =
        let is : IsSigner asked.policy reading (Managed policy) =
        subst (λ meaning. IsSigner meaning reading (Managed policy)) (sym under) (record { hint = i.hint; keyed = i.keyed; structure = i.structure; is = refl }) in
        refused_at (log_judged_of (terms_of asked material).grounds (Managed policy) policy.verify_tlog (entries_in reading)) _ e
        (subst (λ signer. vouched_of (terms_of asked material).grounds signer reading ≡ Err e) i.is h)
        (unlogged material kept (Managed policy) is policy.verify_tlog (ap asks_log under) e) (λ promised p k.
        refused_at (logs_judged_of policy.verify_tlog policy.logs (log_count_of (terms_of asked material).grounds policy.verify_tlog (entries_in reading))) _ e k
        (too_few material kept policy.verify_tlog (ap asks_log under) policy.logs (ap logs_asked under) e) (λ u r m.
        refused_at (tokens_judged_of (terms_of asked material).grounds (signature_in reading.content) (tokens_in reading)) _ e m
        (unstamped material kept e) (λ stamped q l. cc)))
    unvouched material kept (Certificate policy) under signer i e h =
        let is : IsSigner asked.policy reading (Certified policy i.info i.certificate) =
        subst (λ meaning. IsSigner meaning reading (Certified policy i.info i.certificate)) (sym under)
        (record { structure = i.structure; certificate = i.certificate; named = i.named; info = i.info; says = i.says; is = refl }) in
        unowned material kept policy under i.certificate i.info i.named i.says is e
        (subst (λ signer. vouched_of (terms_of asked material).grounds signer reading ≡ Err e) i.is h)

    -- an entry isn't of the signature
    undescribed : (material : Material) (signer : Signer) → IsSigner asked.policy reading signer → (e : Error)
        → entries_described_of (terms_of asked material).grounds signer reading (digest_of (Read bytes)) (entries_in reading) ≡ Err e → Cause e
    undescribed material signer is e h =
        let u = entries_undescribed (terms_of asked material).grounds signer reading (Read bytes) (entries_in reading) e h in
        subst Cause u.named (by_why u.why u.entry u.among u.cause)
      where
        as_is : (why : BindingError) (x : TransparencyLogEntry) → Contains (entries_in reading) x → BindingCause (readings_in asked.crypto) (signatory_of signer) (signed_in reading.content (digest_of (Read bytes))) x why
            → IsUndescribed asked source source' (error_of_binding why)
        as_is why x among cause = record {
          reading = reading;
          read = read;
          bytes = bytes;
          whole = whole;
          undescribed = record { signer = signer; is = is; entry = x; among = among; why = why; named = refl; cause = cause };
        }

        by_why : (why : BindingError) (x : TransparencyLogEntry) → Contains (entries_in reading) x → BindingCause (readings_in asked.crypto) (signatory_of signer) (signed_in reading.content (digest_of (Read bytes))) x why
            → Cause (error_of_binding why)
        by_why binding.Unsupported x among cause = inr (inr (as_is binding.Unsupported x among cause))
        by_why binding.MalformedEntry x among cause = inr (inr (inr (as_is binding.MalformedEntry x among cause)))
        by_why binding.ArtifactMismatch x among cause = inr (inr (as_is binding.ArtifactMismatch x among cause))
        by_why binding.EntryMismatch x among cause = inr (inr (inr (as_is binding.EntryMismatch x among cause)))
        by_why binding.IntegratedTime x among cause = inr (inr (inr (as_is binding.IntegratedTime x among cause)))
        by_why binding.NoMemory x among cause = wanted

    -- what the policy asks beside who signed isn't met
    unmet : (material : Material) → IsKept file material → (signer : Signer) → IsSigner asked.policy reading signer → (claim : Claim) → claim_of reading.content ≡ Ok claim
        → (evidence : Evidence) → vouched_of (terms_of asked material).grounds signer reading ≡ Ok evidence → (e : Error)
        → conditions_judged_of (conditions_in signer) claim evidence ≡ Err e → Cause e
    unmet material kept signer is claim claims evidence v e h = by_why e (conditions_caused (conditions_in signer) claim evidence e h)
      where
        as_is : (e : Error) → ConditionCause (conditions_in signer) claim evidence e → IsUnmet asked file source source' e
        as_is e why = record {
          material = material;
          kept = kept;
          reading = reading;
          read = read;
          bytes = bytes;
          whole = whole;
          signer = signer;
          is = is;
          claim = claim;
          claims = claims;
          evidence = evidence;
          vouches = vouches_means (terms_of asked material).grounds signer reading evidence v;
          why = why;
        }

        by_why : (e : Error) → ConditionCause (conditions_in signer) claim evidence e → Cause e
        by_why (verify.PredicateMismatch expected actual) why = inr (as_is (verify.PredicateMismatch expected actual) why)
        by_why (verify.TooFewTimes wanted found) why = inr (as_is (verify.TooFewTimes wanted found) why)
        by_why (verify.TooFewTokens wanted found) why = inr (as_is (verify.TooFewTokens wanted found) why)
        by_why (verify.TimeOutside time) why = inr (as_is (verify.TimeOutside time) why)
        by_why _ why = absurd why

    pub unjudged : (material : Material) → IsKept file material → (e : Error) → judged_of (terms_of asked material) reading (Read bytes) ≡ Err e → Cause e
    unfolding judged_of judged_had
    unjudged material kept e h =
        let grounds = (terms_of asked material).grounds in
        refused_at (prepared_of read_kind asked.policy reading) _ e h (unprepared reading read e) (λ (ready : Ready) p k.
        let q = prepared_means read_kind asked.policy reading ready p in
        let signer = ap (λ (r : Ready). r.signer) q.same in
        refused_at (vouched_of grounds ready.signer reading) _ e k
        (λ v. unvouched material kept asked.policy refl q.signer q.is e (subst (λ signer. vouched_of grounds signer reading ≡ Err e) signer v)) (λ (evidence : Evidence) v l.
        refused_at (content_judged_of asked.crypto.accepts ready.key reading.content ready.claim (digest_of (Read bytes)) None) _ e l (unaccepted ready q e) (λ u r m.
        refused_at (entries_described_of grounds ready.signer reading (digest_of (Read bytes)) (entries_in reading)) _ e m
        (λ d. undescribed material q.signer q.is e
        (subst (λ signer. entries_described_of grounds signer reading (digest_of (Read bytes)) (entries_in reading) ≡ Err e) signer d)) (λ w s n.
        refused_at (conditions_judged_of (conditions_in ready.signer) ready.claim evidence) _ e n
        (λ c. unmet material kept q.signer q.is q.claim q.claims evidence (subst (λ signer. vouched_of grounds signer reading ≡ Ok evidence) signer v) e
        (subst (λ (r : Ready). conditions_judged_of (conditions_in r.signer) r.claim evidence ≡ Err e) q.same c)) (λ x t o. cc)))))

-- ---- the whole

-- each refusal of the judgement under a trust file has its cause
pub judge_refused : (asked : Asked) (file : List ℕ) (source source' : Watched (List ℕ)) (e : Error) → JudgesBundle asked file source source' (Err e)
    → JudgeCause asked file source source' e
judge_refused asked file source source' e (trust_refused d h s n) =
    subst (JudgeCause asked file source source') (err_same d e (sym n))
    (wants asked file source source' d (λ other. let r = by_fault trust_fault (trusted_root_of_bytes file) d (h other) in
    by_trust asked file source source' d r.0 r.1 r.2 (as_lowered verify.TrustRoot r.0)))
judge_refused asked file source source' e (verifier_refused trust d t h s n) =
    subst (JudgeCause asked file source source') (err_same d e (sym n))
    (wants asked file source source' d (λ other.
    by_usable asked file source source' trust d (read_of trust_fault (trusted_root_of_bytes file) trust t) (h other) (material_fault trust d (h other))))
judge_refused asked file source source' e (bundle_refused trust material d t u h s n) =
    subst (JudgeCause asked file source source') (err_same d e (sym n))
    (wants asked file source source' d (λ other. let r = by_fault bundle_fault (bundle_of_bytes asked.bundle) d (h other) in
    by_bundle asked file source source' d r.0 r.1 r.2 (as_lowered verify.InvalidBundle r.0)))
judge_refused asked file source source' e (judged trust material reading t u b v) =
    by_stage (read_of bundle_fault (bundle_of_bytes asked.bundle) reading b) v.refused
  where
    kept : IsKept file material
    kept = record { trust = trust; trust_read = read_of trust_fault (trusted_root_of_bytes file) trust t; usable = u }

    by_stage : IsRead asked.bundle reading → promise.Cause (terms_of asked material) reading source source' asked.max e → JudgeCause asked file source source' e
    by_stage read (inl want) = subst (JudgeCause asked file source source') (sym want) (inl tt)
    by_stage read (inr (inl before)) = unprepared asked file source source' reading read e before.refusal
    by_stage read (inr (inr (inl within))) = subst (JudgeCause asked file source source') (sym within.refusal.1) (inl within.refusal.2)
    by_stage read (inr (inr (inr after))) =
        unjudged asked file source source' reading read after.refusal.0 after.refusal.1 material kept e after.refusal.2
