-- Where a rule for certificates is refused by its names, nothing that comes before them refuses it; so a rule that asks alike comes to its
-- names too.
use Rattle.std.proofs.Common.{◌≡◌, inl, inr, ℕ, List, [], ◌∷◌, ◌++◌, Bool, true, false, if◌then◌else◌, Option, Some, None, Result, Ok, Err, refl, sym, ap, ◌∙◌, subst}
use Rattle.std.specs.Prelude.{⊤, find, ok_or}
use Rattle.std.specs.List.{list_all}
use Rattle.foundation.specs.Steps.{◌>>=◌}
use Rattle.foundation.specs.Results.{step_ok, ok_same, err_same, some_same, refused_at}
use Rattle.jiff_core.specs.declared.timestamp.Timestamp as jiff
use Rattle.sigstore_types_parts.specs.HashAlgorithm.{same_algorithm}
use Rattle.sigstore_types_parts.specs.declared.hash_algorithm.HashAlgorithm.{HashAlgorithm}
use Rattle.sigstore_types_parts.specs.declared.error.TypesError.{TypesError}
use Rattle.sigstore_envelopes.specs.declared.envelope.DsseEnvelope.{DsseEnvelope}
use Rattle.sigstore_envelopes.specs.declared.statement.Statement.{Statement}
use Rattle.sigstore_envelopes.specs.declared.statement.Subject.{Subject}
use Rattle.sigstore_envelopes.specs.Statement.{statement_of_bytes, algorithms_of}
use Rattle.sigstore_types.specs.declared.bundle.Bundle.{Bundle}
use Rattle.sigstore_types.specs.declared.content.SignatureContent.{SignatureContent}
use Rattle.sigstore_types.specs.declared.content.SignatureContent.TheVariants.{MessageSignature as OfMessage, DsseEnvelope as OfEnvelope}
use Rattle.sigstore_types.specs.Bundle.{entries_in, tokens_in, structure_of}
use Rattle.sigstore_keys.specs.declared.error.Error.{Error as CryptoError}
use Rattle.sigstore_keys.specs.declared.key.VerificationKey.{VerificationKey}
use Rattle.sigstore_keys.specs.declared.scheme.SigningScheme.{SigningScheme}
use Rattle.sigstore_keys.specs.Key.{spki_key_of}
use Rattle.sigstore_entries.specs.declared.entry.TransparencyLogEntry.{TransparencyLogEntry}
use Rattle.sigstore_log.specs.declared.error.LogError.{LogError}
use Rattle.sigstore_log.specs.declared.error.LogError.TheVariants as entry
use Rattle.sigstore_log.specs.Promise.{told_time}
use Rattle.sigstore_tsa.specs.declared.authorities.TokenFault.{TokenFault}
use Rattle.sigstore_tsa.specs.declared.authorities.TokenFault.TheVariants as token
use Rattle.certificate_claims.specs.declared.certificate_info.CertificateInfo.{CertificateInfo}
use Rattle.certificate_claims.specs.Info.{info_of}
use Rattle.sigstore_certificate.specs.declared.error.CertificateRefusal.{CertificateRefusal}
use Rattle.sigstore_certificate.specs.declared.error.CertificateRefusal.TheVariants as refusal
use Rattle.sigstore_certificate.specs.Certified.{chain_judged, certified_of}
use Rattle.sigstore_certificate.specs.Names.{names_judged}
use Rattle.sigstore_certificate.proofs.NamesLast.{IsByNames, by_chain}
use Rattle.sigstore_policy.specs.declared.certificate.VerificationPolicy.{VerificationPolicy}
use Rattle.sigstore_policy.specs.Policy.{Certificate}
use Rattle.sigstore_judgement.specs.declared.error.CertificateError.TheVariants as certificate
use Rattle.sigstore_judgement.specs.declared.error.Error.{Error}
use Rattle.sigstore_judgement.specs.declared.error.Error.TheVariants as verify
use Rattle.sigstore_judgement.specs.declared.error.TimestampError.TheVariants as stamp
use Rattle.sigstore_judgement.specs.declared.error.TransparencyLogError.TheVariants as log
use Rattle.sigstore_judgement.specs.declared.evidence.Evidence.{Evidence}
use Rattle.sigstore_judgement.specs.declared.report.JudgedBundle.{JudgedBundle}
use Rattle.sigstore_judgement.specs.declared.report.VerificationResult.{VerificationResult}
use Rattle.sigstore_judgement.specs.declared.rules.ReadArtifact.{ReadArtifact}
use Rattle.sigstore_judgement.specs.declared.rules.ReadArtifact.TheVariants as read
use Rattle.sigstore_judgement.specs.declared.sharing.EarlierRule.{EarlierRule}
use Rattle.sigstore_judgement.specs.Artifact.{Kind, read_kind, digest_among}
use Rattle.sigstore_judgement.specs.Claim.{Claim, OfStatement, is_in_toto, typed_of, or_invalid, subjects_of, digested_of, statement_judged_of, stated_of, claim_of, needed_of}
use Rattle.sigstore_judgement.specs.Content.{scheme_of, signs_digest, supported_of, signature_in, content_judged_of}
use Rattle.sigstore_judgement.specs.Conditions.{conditions_judged_of}
use Rattle.sigstore_judgement.specs.Entries.{entries_described_of}
use Rattle.sigstore_judgement.specs.Evidence.{report_of}
use Rattle.sigstore_judgement.specs.Error.{error_of_crypto, error_of_info, error_of_certificate, error_of_log, lowered, by_types, by_crypto, by_info, by_certificate, by_token, by_log}
use Rattle.sigstore_judgement.specs.Grounds.{Grounds, trust_in}
use Rattle.sigstore_judgement.specs.Judged.{Ready, key_with, ready_with, claimed_of, ready_of, prepared_of, intermediates_in, owner_vouched_of, judged_had}
use Rattle.sigstore_judgement.specs.Rules.{picked_one_of, picked_of, picked_judged_of, ready_answer_of, answer_by}
use Rattle.sigstore_judgement.specs.Sharing.{is_by_names, AsksAlike, IsOfBundle, ComesToNames, EachComesToNames}
use Rattle.sigstore_judgement.specs.Signer.{Certified, key_in, certificate_in, named_of, owner_of}
use Rattle.sigstore_judgement.specs.Tokens.{token_judged_of, tokens_judged_of}
use Rattle.sigstore_judgement.specs.Verified.{promised_if, promised_of, promises_judged_of, some_time, verified_of}
use Rattle.sigstore_judgement.proofs.Accepts.{signer_passes, after_info, after_named, after_structure, after_claim, after_scheme, after_key, after_signer, served, after_certified, after_verified, Prepared, prepared_means}
use Rattle.sigstore_judgement.proofs.JudgeCauses.{through_crypto, IsKind, as_crypto, IsMute, as_info, through_info, through_certificate, IsLowered, as_lowered}

-- ---- what refuses before the names isn't refused by them

module _ (e : Error) (named : is_by_names e ≡ true) where
  no_both_tests : false ≡ true → ⊥
  no_both_tests h = cc

  -- the refusal isn't this one
  not_this : (d : Error) → is_by_names d ≡ false → d ≡ e → ⊥
  not_this d other is = no_both_tests (sym other ∙ ap is_by_names is ∙ named)

  never_types : {T : Type 0} (r : Result T TypesError) → by_types r ≡ Err e → ⊥
  never_types (Ok x) h = cc
  never_types (Err x) h = by (as_lowered verify.Bundle x)
    where
      by : IsLowered verify.Bundle x → ⊥
      by (inl want) = not_this verify.NoMemory refl (sym want ∙ err_same (lowered verify.Bundle x) e h)
      by (inr is) = not_this verify.Bundle refl (sym is ∙ err_same (lowered verify.Bundle x) e h)

  never_named : (o : Option (List ℕ)) → named_of o ≡ Err e → ⊥
  never_named None h = not_this verify.InvalidBundle refl (err_same verify.InvalidBundle e h)
  never_named (Some c) h = cc

  never_info : {T : Type 0} (r : Result T CryptoError) → by_info r ≡ Err e → ⊥
  never_info r h = by (through_info r e h)
    where
      by : (x : CryptoError) × (r ≡ Err x) × (error_of_info x ≡ e) → ⊥
      by (x, is, told) = of (as_info x)
        where
          of : IsMute (error_of_info x) → ⊥
          of (inl mute) = not_this (verify.Certificate certificate.Malformed) refl (sym mute ∙ told)
          of (inr want) = not_this verify.NoMemory refl (sym want ∙ told)

  never_crypto : {T : Type 0} (r : Result T CryptoError) → by_crypto r ≡ Err e → ⊥
  never_crypto r h = by (through_crypto r e h)
    where
      by : (x : CryptoError) × (r ≡ Err x) × (error_of_crypto x ≡ e) → ⊥
      by (x, is, told) = of (as_crypto x)
        where
          of : IsKind (error_of_crypto x) → ⊥
          of (inl is) = not_this verify.Crypto refl (sym is ∙ told)
          of (inr want) = not_this verify.NoMemory refl (sym want ∙ told)

  never_if : (b : Bool) (d : Error) → is_by_names d ≡ false → ◌≡◌ {A = Result ⊤ Error} (if b then Ok tt else Err d) (Err e) → ⊥
  never_if true d other h = cc
  never_if false d other h = not_this d other (err_same d e h)

  never_invalid : (r : Result Statement TypesError) → or_invalid r ≡ Err e → ⊥
  never_invalid (Ok x) h = cc
  never_invalid (Err x) h = not_this verify.InvalidBundle refl (err_same verify.InvalidBundle e h)

  never_subjects : (subjects : List Subject) → subjects_of subjects ≡ Err e → ⊥
  never_subjects [] h = not_this verify.InvalidBundle refl (err_same verify.InvalidBundle e h)
  never_subjects (x ∷ xs) h = cc

  never_digested : (algorithms : List HashAlgorithm) → digested_of algorithms ≡ Err e → ⊥
  never_digested [] h = not_this verify.UnsupportedBundle refl (err_same verify.UnsupportedBundle e h)
  never_digested (x ∷ xs) h = cc

  never_statement : (statement : Statement) → statement_judged_of statement ≡ Err e → ⊥
  never_statement statement h =
      refused_at (subjects_of statement.subjects) (λ _. digested_of (algorithms_of statement)) e h (never_subjects statement.subjects)
      (λ u p k. never_digested (algorithms_of statement) k)

  never_stated : (envelope : DsseEnvelope) → stated_of envelope ≡ Err e → ⊥
  unfolding stated_of
  never_stated envelope h =
      refused_at (typed_of envelope.payload_type) (λ _. or_invalid (statement_of_bytes envelope.payload) >>= λ s. statement_judged_of s >>= λ _. Ok s) e h
      (never_if (is_in_toto envelope.payload_type) verify.UnsupportedBundle refl) (λ u p k.
      refused_at (or_invalid (statement_of_bytes envelope.payload)) (λ s. statement_judged_of s >>= λ _. Ok s) e k
      (never_invalid (statement_of_bytes envelope.payload)) (λ s q l.
      refused_at (statement_judged_of s) (λ _. Ok s) e l (never_statement s) (λ v r m. cc)))

  never_claim : (content : SignatureContent) → claim_of content ≡ Err e → ⊥
  never_claim (OfMessage message) h = cc
  never_claim (OfEnvelope envelope) h = by (stated_of envelope) refl h
    where
      by : (r : Result Statement Error) → stated_of envelope ≡ r → ◌≡◌ {A = Result Claim Error} (r >>= λ s. Ok (OfStatement s)) (Err e) → ⊥
      by (Ok s) is k = cc
      by (Err d) is k = never_stated envelope (is ∙ ap Err (err_same d e k))

  never_supported : (a b : Bool) → ◌≡◌ {A = Result ⊤ Error} (if a then (if b then Ok tt else Err verify.Crypto) else Err verify.UnsupportedArtifact) (Err e) → ⊥
  never_supported true b h = never_if b verify.Crypto refl h
  never_supported false b h = not_this verify.UnsupportedArtifact refl (err_same verify.UnsupportedArtifact e h)

  never_claimed : (scheme : SigningScheme) (content : SignatureContent) → claimed_of read_kind scheme content ≡ Err e → ⊥
  never_claimed scheme content h =
      refused_at (claim_of content) (served read_kind scheme content) e h (never_claim content) (λ claim p k.
      refused_at (supported_of read_kind (signs_digest scheme content) (needed_of scheme claim)) (λ _. Ok claim) e k
      (never_supported _ (list_all read_kind.has (needed_of scheme claim))) (λ u q l. cc))

  never_owner : (policy : VerificationPolicy) (bundle : Bundle) → owner_of policy bundle ≡ Err e → ⊥
  unfolding owner_of
  never_owner policy bundle h =
      refused_at (by_types (structure_of bundle policy.verify_tlog)) (λ _. after_structure policy bundle) e h (never_types (structure_of bundle policy.verify_tlog)) (λ u p k.
      refused_at (named_of (certificate_in bundle)) (after_named policy) e k (never_named (certificate_in bundle)) (λ c q l.
      refused_at (by_info (info_of c)) (after_info policy c) e l (never_info (info_of c)) (λ info r m. cc)))

  never_prepared : (policy : VerificationPolicy) (bundle : Bundle) → prepared_of read_kind (Certificate policy) bundle ≡ Err e → ⊥
  unfolding prepared_of ready_of
  never_prepared policy bundle h =
      refused_at (owner_of policy bundle) (after_signer read_kind bundle) e h (never_owner policy bundle) (λ signer p k.
      refused_at (by_crypto (spki_key_of (key_in signer))) (after_key read_kind signer bundle) e k (never_crypto (spki_key_of (key_in signer))) (λ key q l.
      refused_at (by_crypto (scheme_of key.scheme bundle.content)) (after_scheme read_kind signer key bundle) e l (never_crypto (scheme_of key.scheme bundle.content)) (λ scheme r m.
      refused_at (claimed_of read_kind scheme bundle.content) (after_claim signer key scheme) e m (never_claimed scheme bundle.content) (λ claim s n. cc))))

  never_found : {T : Type 0} (o : Option T) → ◌≡◌ {A = Result T Error} (ok_or o verify.UnsupportedArtifact) (Err e) → ⊥
  never_found None h = not_this verify.UnsupportedArtifact refl (err_same verify.UnsupportedArtifact e h)
  never_found (Some x) h = cc

  never_picked : (needed : List HashAlgorithm) (taken : List (HashAlgorithm × List ℕ)) → picked_of needed taken ≡ Err e → ⊥
  never_picked [] taken h = cc
  never_picked (algorithm ∷ algorithms) taken h =
      refused_at (picked_one_of algorithm taken) (λ digest. picked_of algorithms taken >>= λ others. Ok (digest ∷ others)) e h
      (never_found (find (λ (one : HashAlgorithm × List ℕ). same_algorithm one.0 algorithm) taken)) (λ digest p k.
      refused_at (picked_of algorithms taken) (λ others. Ok (digest ∷ others)) e k (never_picked algorithms taken) (λ others q l. cc))

  never_token : (r : Result jiff.Timestamp TokenFault) → by_token r ≡ Err e → ⊥
  never_token (Ok x) h = cc
  never_token (Err token.Invalid) h = not_this (verify.Timestamp stamp.Invalid) refl (err_same (verify.Timestamp stamp.Invalid) e h)
  never_token (Err (token.OutsideValidity time)) h =
      not_this (verify.Timestamp (stamp.OutsideAuthorityValidity time)) refl (err_same (verify.Timestamp (stamp.OutsideAuthorityValidity time)) e h)
  never_token (Err token.NoMemory) h = not_this verify.NoMemory refl (err_same verify.NoMemory e h)

  is_log : (x : LogError) → is_by_names (error_of_log x) ≡ false
  is_log entry.InclusionProof = refl
  is_log entry.Checkpoint = refl
  is_log entry.MalformedEntry = refl
  is_log (entry.UnknownLog log_id) = refl
  is_log entry.InclusionPromise = refl
  is_log entry.IntegratedTime = refl
  is_log entry.NoMemory = refl

  never_log : {T : Type 0} (r : Result T LogError) → by_log r ≡ Err e → ⊥
  never_log (Ok x) h = cc
  never_log (Err x) h = not_this (error_of_log x) (is_log x) (err_same (error_of_log x) e h)

  module _ (grounds : Grounds) where
    never_tokens : (signature : List ℕ) (tokens : List (List ℕ)) → tokens_judged_of grounds signature tokens ≡ Err e → ⊥
    never_tokens signature [] h = cc
    never_tokens signature (one ∷ tokens) h =
        refused_at (token_judged_of grounds signature one) (λ time. tokens_judged_of grounds signature tokens >>= λ times. Ok (time ∷ times)) e h (never_token _) (λ time p k.
        refused_at (tokens_judged_of grounds signature tokens) (λ times. Ok (time ∷ times)) e k (never_tokens signature tokens) (λ times q l. cc))

    never_promised : (one : TransparencyLogEntry) → promised_of grounds one ≡ Err e → ⊥
    never_promised one h = by (told_time one) h
      where
        by : (o : Option jiff.Timestamp) → promised_if grounds one o ≡ Err e → ⊥
        by None k = cc
        by (Some time) k = never_log _ k

    never_promises : (entries : List TransparencyLogEntry) → promises_judged_of grounds entries ≡ Err e → ⊥
    never_promises [] h = cc
    never_promises (one ∷ entries) h =
        refused_at (promised_of grounds one) _ e h (never_promised one) (λ time p k.
        refused_at (promises_judged_of grounds entries) _ e k (never_promises entries) (λ times q l. cc))

    never_timed : (times : List jiff.Timestamp) → some_time times ≡ Err e → ⊥
    never_timed [] h = not_this (verify.Timestamp stamp.NoVerifiedTimestamp) refl (err_same (verify.Timestamp stamp.NoVerifiedTimestamp) e h)
    never_timed (time ∷ times) h = cc

    never_verified : (bundle : Bundle) → verified_of grounds bundle ≡ Err e → ⊥
    unfolding verified_of
    never_verified bundle h =
        refused_at (tokens_judged_of grounds (signature_in bundle.content) (tokens_in bundle)) _ e h (never_tokens (signature_in bundle.content) (tokens_in bundle)) (λ stamped p k.
        refused_at (promises_judged_of grounds (entries_in bundle)) _ e k (never_promises (entries_in bundle)) (λ promised q l. never_timed _ l))

  by_names : (why : CertificateRefusal) → error_of_certificate why ≡ e → IsByNames why
  by_names (refusal.IdentityMismatch matcher actual) told = tt
  by_names (refusal.IssuerMismatch text actual) told = tt
  by_names (refusal.ClaimMismatch name matcher actual) told = tt
  by_names refusal.Malformed told = absurd (not_this (error_of_certificate refusal.Malformed) refl told)
  by_names refusal.ChainInvalid told = absurd (not_this (error_of_certificate refusal.ChainInvalid) refl told)
  by_names refusal.NoTime told = absurd (not_this (error_of_certificate refusal.NoTime) refl told)
  by_names (refusal.NoValidAuthority time) told = absurd (not_this (error_of_certificate (refusal.NoValidAuthority time)) refl told)
  by_names (refusal.NotYetValid time from) told = absurd (not_this (error_of_certificate (refusal.NotYetValid time from)) refl told)
  by_names (refusal.Expired time ended) told = absurd (not_this (error_of_certificate (refusal.Expired time ended)) refl told)
  by_names (refusal.Sct rule) told = absurd (not_this (error_of_certificate (refusal.Sct rule)) refl told)
  by_names refusal.InvalidTrustRoot told = absurd (not_this (error_of_certificate refusal.InvalidTrustRoot) refl told)
  by_names refusal.NoMemory told = absurd (not_this (error_of_certificate refusal.NoMemory) refl told)

-- ---- under a policy that asks the same of the log the same is prepared

prepared_made : (kind : Kind) (policy : VerificationPolicy) (bundle : Bundle) (ready : Ready) → Prepared kind (Certificate policy) bundle ready
    → prepared_of kind (Certificate policy) bundle ≡ Ok ready
unfolding prepared_of ready_of
prepared_made kind policy bundle ready a =
    ap (λ r. r >>= after_signer kind bundle) (signer_passes (Certificate policy) bundle a.signer a.is)
    ∙ ap (λ r. by_crypto r >>= after_key kind a.signer bundle) a.read
    ∙ ap (λ r. by_crypto r >>= after_scheme kind a.signer a.key bundle) a.chosen
    ∙ ap (λ r. (r >>= served kind a.scheme bundle.content) >>= after_claim a.signer a.key a.scheme) a.claims
    ∙ ap (λ r. (r >>= λ _. Ok a.claim) >>= after_claim a.signer a.key a.scheme) a.supported
    ∙ ap Ok (sym a.same)

pub record PreparedAlike (kind : Kind) (policy : VerificationPolicy) (bundle : Bundle) (ready : Ready) : Type 0 where
  pub certificate : List ℕ
  pub named : certificate_in bundle ≡ Some certificate
  pub info : CertificateInfo
  pub says : info_of certificate ≡ Ok info
  pub key : VerificationKey
  pub claim : Claim
  pub was : ready ≡ ready_with (Certified policy info certificate) key claim
  pub other : (asked : VerificationPolicy) → asked.verify_tlog ≡ policy.verify_tlog
      → prepared_of kind (Certificate asked) bundle ≡ Ok (ready_with (Certified asked info certificate) key claim)

pub prepared_alike : (kind : Kind) (policy : VerificationPolicy) (bundle : Bundle) (ready : Ready) → prepared_of kind (Certificate policy) bundle ≡ Ok ready
    → PreparedAlike kind policy bundle ready
prepared_alike kind policy bundle ready h = by (prepared_means kind (Certificate policy) bundle ready h)
  where
    by : Prepared kind (Certificate policy) bundle ready → PreparedAlike kind policy bundle ready
    by a = record {
      certificate = a.is.certificate;
      named = a.is.named;
      info = a.is.info;
      says = a.is.says;
      key = key_with a.scheme a.key;
      claim = a.claim;
      was = a.same ∙ ap (λ signer. ready_with signer (key_with a.scheme a.key) a.claim) a.is.is;
      other = λ asked log. prepared_made kind asked bundle (ready_with (Certified asked a.is.info a.is.certificate) (key_with a.scheme a.key) a.claim) (record {
        signer = Certified asked a.is.info a.is.certificate;
        is = record {
          structure = ap (structure_of bundle) log ∙ a.is.structure;
          certificate = a.is.certificate;
          named = a.is.named;
          info = a.is.info;
          says = a.is.says;
          is = refl;
        };
        key = a.key;
        read = ap (λ signer. spki_key_of (key_in signer)) (sym a.is.is) ∙ a.read;
        scheme = a.scheme;
        chosen = a.chosen;
        claim = a.claim;
        claims = a.claims;
        supported = a.supported;
        same = refl;
      });
    }

-- ---- up to the names

module _ (grounds : Grounds) (bundle : Bundle) (policy : VerificationPolicy) (info : CertificateInfo) (leaf : List ℕ) where
  -- the verified times, and the certificate's chain and timestamps by them
  pub record Comes : Type 0 where
    pub times : List jiff.Timestamp
    pub verified : verified_of grounds bundle ≡ Ok times
    pub promised : ℕ
    pub chained : chain_judged (trust_in grounds) policy.certificate policy.scts info leaf (intermediates_in bundle) times ≡ Ok promised

  comes_certified : (times : List jiff.Timestamp) → verified_of grounds bundle ≡ Ok times → (e : Error) → is_by_names e ≡ true
      → (r : Result ℕ CertificateRefusal) → certified_of (trust_in grounds) policy info leaf (intermediates_in bundle) times ≡ r
      → ((why : CertificateRefusal) → r ≡ Err why → error_of_certificate why ≡ e) → Comes
  unfolding certified_of
  comes_certified times verified e named (Ok n) is told =
      let a = step_ok (chain_judged (trust_in grounds) policy.certificate policy.scts info leaf (intermediates_in bundle) times) (λ promised. names_judged policy info >>= λ _. Ok promised) n is in
      record { times = times; verified = verified; promised = a.0; chained = a.1 }
  comes_certified times verified e named (Err why) is told =
      refused_at (chain_judged (trust_in grounds) policy.certificate policy.scts info leaf (intermediates_in bundle) times) (λ promised. names_judged policy info >>= λ _. Ok promised) why is
      (λ r. absurd (by_chain (trust_in grounds) info leaf (intermediates_in bundle) policy.certificate policy.scts times why r (by_names e named why (told why refl))))
      (λ promised p k. record { times = times; verified = verified; promised = promised; chained = p })

  comes_refused : (e : Error) → is_by_names e ≡ true → owner_vouched_of grounds policy info leaf bundle ≡ Err e → Comes
  unfolding owner_vouched_of
  comes_refused e named h =
      refused_at (verified_of grounds bundle) _ e h (λ r. absurd (never_verified e named grounds bundle r)) (λ times p k.
      refused_at (by_certificate (certified_of (trust_in grounds) policy info leaf (intermediates_in bundle) times)) _ e k
      (λ r. let t = through_certificate (certified_of (trust_in grounds) policy info leaf (intermediates_in bundle) times) e r in
      comes_certified times p e named (Err t.0) t.1 (λ why is. ap error_of_certificate (sym (err_same t.0 why is)) ∙ t.2))
      (λ n q l. passed times p (certified_of (trust_in grounds) policy info leaf (intermediates_in bundle) times) refl n q))
    where
      passed : (times : List jiff.Timestamp) → verified_of grounds bundle ≡ Ok times → (r : Result ℕ CertificateRefusal)
          → certified_of (trust_in grounds) policy info leaf (intermediates_in bundle) times ≡ r → (n : ℕ) → by_certificate r ≡ Ok n → Comes
      passed times p (Ok m) is n q = comes_certified times p e named (Ok m) is (λ why k. cc)
      passed times p (Err why) is n q = cc

  comes_vouched : (e : Error) → is_by_names e ≡ true → (evidence : Evidence) → owner_vouched_of grounds policy info leaf bundle ≡ Ok evidence → Comes
  unfolding owner_vouched_of
  comes_vouched e named evidence h =
      let a = step_ok (verified_of grounds bundle) _ evidence h in
      let b = step_ok (by_certificate (certified_of (trust_in grounds) policy info leaf (intermediates_in bundle) a.0)) _ evidence a.2 in
      passed a.0 a.1 (certified_of (trust_in grounds) policy info leaf (intermediates_in bundle) a.0) refl b.0 b.1
    where
      passed : (times : List jiff.Timestamp) → verified_of grounds bundle ≡ Ok times → (r : Result ℕ CertificateRefusal)
          → certified_of (trust_in grounds) policy info leaf (intermediates_in bundle) times ≡ r → (n : ℕ) → by_certificate r ≡ Ok n → Comes
      passed times p (Ok m) is n q = comes_certified times p e named (Ok m) is (λ why k. cc)
      passed times p (Err why) is n q = cc

  -- so another policy's names refuse, where they do
  module _ (comes : Comes) (asked : VerificationPolicy) (why : CertificateRefusal) where
    certified_refuses : asked.certificate ≡ policy.certificate → asked.scts ≡ policy.scts → names_judged asked info ≡ Err why
        → certified_of (trust_in grounds) asked info leaf (intermediates_in bundle) comes.times ≡ Err why
    unfolding certified_of
    certified_refuses same_certificate same_scts h =
        ap (λ c. chain_judged (trust_in grounds) c asked.scts info leaf (intermediates_in bundle) comes.times >>= named) same_certificate
        ∙ ap (λ s. chain_judged (trust_in grounds) policy.certificate s info leaf (intermediates_in bundle) comes.times >>= named) same_scts
        ∙ ap (λ r. r >>= named) comes.chained
        ∙ ap (λ r. r >>= λ _. Ok comes.promised) h
      where
        named : ℕ → Result ℕ CertificateRefusal
        named promised = names_judged asked info >>= λ _. Ok promised

    names_refuse : asked.certificate ≡ policy.certificate → asked.scts ≡ policy.scts → names_judged asked info ≡ Err why
        → owner_vouched_of grounds asked info leaf bundle ≡ Err (error_of_certificate why)
    unfolding owner_vouched_of
    names_refuse same_certificate same_scts h =
        ap (λ r. r >>= after_verified grounds asked info leaf bundle) comes.verified
        ∙ ap (λ r. by_certificate r >>= after_certified grounds asked info leaf bundle comes.times) (certified_refuses same_certificate same_scts h)

-- ---- the whole answer

module _ (grounds : Grounds) (bundle : Bundle) where
  abbrev after_picked : Ready → List (HashAlgorithm × List ℕ) → Result JudgedBundle Error
  after_picked ready digests = judged_had grounds ready bundle (digest_among digests) None >>= λ report. Ok (record { result = report; digests = digests })

  module _ (policy : VerificationPolicy) (info : CertificateInfo) (leaf : List ℕ) (key : VerificationKey) (claim : Claim) where
    abbrev prepared_under : VerificationPolicy → Ready
    prepared_under asked = ready_with (Certified asked info leaf) key claim

    module _ (e : Error) (named : is_by_names e ≡ true) where
      -- what vouches was looked at as far as the names
      comes_had : (digests : List (HashAlgorithm × List ℕ)) → after_picked (prepared_under policy) digests ≡ Err e → Comes grounds bundle policy info leaf
      unfolding judged_had
      comes_had digests h =
          refused_at (judged_had grounds (prepared_under policy) bundle (digest_among digests) None) (λ report. Ok (record { result = report; digests = digests })) e h
          (λ r. refused_at (owner_vouched_of grounds policy info leaf bundle) _ e r (comes_refused grounds bundle policy info leaf e named)
          (λ evidence p k. comes_vouched grounds bundle policy info leaf e named evidence p))
          (λ report p k. cc)

      module _ (asked : VerificationPolicy) (why : CertificateRefusal) (same_certificate : asked.certificate ≡ policy.certificate) (same_scts : asked.scts ≡ policy.scts)
          (refuse : names_judged asked info ≡ Err why) where
        other_had : Comes grounds bundle policy info leaf → (digests : List (HashAlgorithm × List ℕ)) → after_picked (prepared_under asked) digests ≡ Err (error_of_certificate why)
        unfolding judged_had
        other_had comes digests =
            ap (λ r. (r >>= had) >>= λ report. Ok (record { result = report; digests = digests }))
            (names_refuse grounds bundle policy info leaf comes asked why same_certificate same_scts refuse)
          where
            had : Evidence → Result VerificationResult Error
            had evidence = content_judged_of grounds.crypto.accepts key bundle.content claim (digest_among digests) None
                >>= λ _. entries_described_of grounds (Certified asked info leaf) bundle (digest_among digests) (entries_in bundle)
                >>= λ _. conditions_judged_of asked.conditions claim evidence
                >>= λ _. Ok (report_of (Certified asked info leaf) evidence)

        other_answer : (artifact : ReadArtifact) → ready_answer_of grounds bundle artifact (prepared_under policy) ≡ Err e
            → ready_answer_of grounds bundle artifact (prepared_under asked) ≡ Err (error_of_certificate why)
        unfolding picked_judged_of
        other_answer (read.Digests taken) h =
            refused_at (picked_of (needed_of key.scheme claim) taken) (after_picked (prepared_under policy)) e h
            (λ r. absurd (never_picked e named (needed_of key.scheme claim) taken r)) (λ digests p k.
            ap (λ r. r >>= after_picked (prepared_under asked)) p ∙ other_had (comes_had digests k) digests)
        other_answer (read.Unread fault) h = absurd (not_this e named (verify.ArtifactRead fault) refl (err_same (verify.ArtifactRead fault) e h))

  -- a rule that its names refused says so of each that asks alike
  pub comes_to_names : (artifact : ReadArtifact) (policy : VerificationPolicy) (e : Error) (earlier : EarlierRule) → is_by_names e ≡ true → answer_by grounds bundle artifact (Certificate policy) ≡ Err e
      → IsOfBundle bundle earlier → AsksAlike earlier policy → ComesToNames grounds bundle artifact earlier
  unfolding answer_by
  comes_to_names artifact policy e earlier named h of alike =
      refused_at (prepared_of read_kind (Certificate policy) bundle) (ready_answer_of grounds bundle artifact) e h
      (λ r. absurd (never_prepared e named policy bundle r)) (λ ready p k. by ready k (prepared_alike read_kind policy bundle ready p))
    where
      by : (ready : Ready) → ready_answer_of grounds bundle artifact ready ≡ Err e → PreparedAlike read_kind policy bundle ready → ComesToNames grounds bundle artifact earlier
      by ready k a asked d other =
          let leaf : of.certificate ≡ a.certificate = some_same of.certificate a.certificate (sym of.named ∙ a.named) in
          let info : earlier.info ≡ a.info = ok_same earlier.info a.info (sym of.says ∙ ap info_of leaf ∙ a.says) in
          ap (λ r. r >>= ready_answer_of grounds bundle artifact) (a.other asked (other.alike.log ∙ sym alike.log))
          ∙ other_answer policy a.info a.certificate a.key a.claim e named asked other.why (other.alike.certificate ∙ sym alike.certificate) (other.alike.scts ∙ sym alike.scts)
          (ap (names_judged asked) (sym info) ∙ other.refused) artifact (subst (λ (r : Ready). ready_answer_of grounds bundle artifact r ≡ Err e) a.was k)
          ∙ ap Err other.told

  each_behind : (artifact : ReadArtifact) (rules : List EarlierRule) (one : EarlierRule) → EachComesToNames grounds bundle artifact rules
      → ComesToNames grounds bundle artifact one → EachComesToNames grounds bundle artifact (rules ++ one ∷ [])
  each_behind artifact [] one h k = (k, tt)
  each_behind artifact (rule ∷ rules) one h k = (h.0, each_behind artifact rules one h.1 k)

  pub one_more : (artifact : ReadArtifact) (policy : VerificationPolicy) (e : Error) (rules : List EarlierRule) (earlier : EarlierRule) → is_by_names e ≡ true
      → EachComesToNames grounds bundle artifact rules → answer_by grounds bundle artifact (Certificate policy) ≡ Err e
      → IsOfBundle bundle earlier → AsksAlike earlier policy → EachComesToNames grounds bundle artifact (rules ++ earlier ∷ [])
  one_more artifact policy e rules earlier named each h of alike =
      each_behind artifact rules earlier each (comes_to_names artifact policy e earlier named h of alike)
