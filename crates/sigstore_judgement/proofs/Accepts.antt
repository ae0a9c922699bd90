-- The judgement accepts exactly the bundles that are to be accepted.
use Rattle.std.proofs.Common.{◌≡◌, ℕ, List, Bool, true, false, ◌||◌, if◌then◌else◌, Option, Some, None, Result, Ok, Err, refl, sym, ap, subst, ◌∙◌}
use Rattle.std.specs.Prelude.{⊤, IsTrue}
use Rattle.std.specs.List.{list_all}
use Rattle.jiff_core.specs.declared.timestamp.Timestamp.{Timestamp}
use Rattle.foundation.specs.Steps.{◌>>=◌}
use Rattle.foundation.specs.Results.{step_ok, ok_same}
use Rattle.sigstore_types_parts.specs.declared.hash_algorithm.HashAlgorithm.{HashAlgorithm}
use Rattle.sigstore_types_parts.specs.declared.error.TypesError.{TypesError}
use Rattle.sigstore_types.specs.declared.bundle.Bundle.{Bundle}
use Rattle.sigstore_types.specs.declared.content.SignatureContent.{SignatureContent}
use Rattle.sigstore_types.specs.declared.material.VerificationMaterialContent.{VerificationMaterialContent}
use Rattle.sigstore_types.specs.declared.material.VerificationMaterialContent.TheVariants as material
use Rattle.sigstore_types.specs.declared.content.SignatureContent.TheVariants.{MessageSignature as OfMessage, DsseEnvelope as OfEnvelope}
use Rattle.sigstore_types.specs.Bundle.{entries_in, tokens_in, structure_of}
use Rattle.sigstore_keys.specs.declared.error.Error.{Error as CryptoError}
use Rattle.sigstore_keys.specs.declared.scheme.SigningScheme.{SigningScheme}
use Rattle.sigstore_keys.specs.declared.key.VerificationKey.{VerificationKey}
use Rattle.sigstore_keys.specs.Digest.{is_hashed}
use Rattle.sigstore_keys.specs.Key.{spki_key_of}
use Rattle.sigstore_keys.specs.Good.{Judge, is_good_over}
use Rattle.certificate_claims.specs.declared.certificate_info.CertificateInfo.{CertificateInfo}
use Rattle.certificate_claims.specs.Info.{info_of}
use Rattle.sigstore_certificate.specs.declared.error.CertificateRefusal.{CertificateRefusal}
use Rattle.sigstore_policy.specs.declared.certificate.VerificationPolicy.{VerificationPolicy}
use Rattle.sigstore_certificate.specs.Certified.{certified_of}
use Rattle.sigstore_certificate.proofs.CertifiedLaw.{certified_exactly}
use Rattle.sigstore_judgement.specs.declared.error.Error.{Error}
use Rattle.sigstore_judgement.specs.declared.error.Error.TheVariants.{UnsupportedArtifact}
use Rattle.sigstore_judgement.specs.declared.evidence.Evidence.{Evidence}
use Rattle.sigstore_judgement.specs.declared.evidence.Parties.{Parties}
use Rattle.sigstore_judgement.specs.declared.report.VerificationResult.{VerificationResult}
use Rattle.sigstore_policy.specs.declared.public_key.PublicKeyVerificationPolicy.{PublicKeyVerificationPolicy}
use Rattle.sigstore_judgement.specs.Accepts.{ManagedVouches, OwnerVouches, Vouches, Accepts, AcceptsExactly}
use Rattle.sigstore_judgement.specs.Artifact.{Artifact, Kind, kind_of, digest_of, bytes_of}
use Rattle.sigstore_judgement.specs.Claim.{Claim, claim_of, needed_of, is_bound, IsBound}
use Rattle.sigstore_judgement.specs.Conditions.{conditions_judged_of}
use Rattle.sigstore_judgement.specs.Content.{scheme_of, signs_digest, supported_of, subject_in, signature_in, is_good_of, is_signed, first_refusal, content_judged_of}
use Rattle.sigstore_judgement.specs.Entries.{log_judged_of, log_count_of, logs_judged_of, told_if, entries_described_of}
use Rattle.sigstore_judgement.specs.Error.{by_types, by_crypto, by_info, by_certificate}
use Rattle.sigstore_judgement.specs.Evidence.{managed_evidence, owner_evidence, report_of}
use Rattle.sigstore_judgement.specs.Grounds.{Grounds, trust_in, Terms}
use Rattle.sigstore_judgement.specs.Judged.{Ready, key_with, ready_with, claimed_of, ready_of, prepared_of, managed_vouched_of, intermediates_in, owner_vouched_of, vouched_of, judged_had, judged_of}
use Rattle.sigstore_policy.specs.Policy.{Meaning, PublicKey, Certificate}
use Rattle.sigstore_judgement.specs.Parties.{parties_of}
use Rattle.sigstore_judgement.specs.Signer.{Signer, Managed, Certified, conditions_in, key_in, material_in, certificate_in, keyed_of, named_of, managed_of, owner_of, signer_of, IsSigner}
use Rattle.sigstore_judgement.specs.Tokens.{tokens_judged_of}
use Rattle.sigstore_judgement.specs.Verified.{verified_of}
use Rattle.sigstore_judgement.proofs.ClaimLaw.{bound_so, so_bound}
use Rattle.sigstore_judgement.proofs.ConditionLaw.{conditions_mean, conditions_pass}
use Rattle.sigstore_judgement.proofs.EntryLaw.{are_logged, log_accepted, enough_means, enough_passes, are_described, described_pass}
use Rattle.sigstore_judgement.proofs.TokenLaw.{are_stamped, stamped_pass}
use Rattle.sigstore_judgement.proofs.VerifiedLaw.{verified_means, verified_passes}

through_types : {A : Type 0} (r : Result A TypesError) (x : A) → by_types r ≡ Ok x → r ≡ Ok x
through_types (Ok y) x h = cc
through_types (Err e) x h = cc

pub ok_crypto : {A : Type 0} (r : Result A CryptoError) (x : A) → by_crypto r ≡ Ok x → r ≡ Ok x
ok_crypto (Ok y) x h = cc
ok_crypto (Err e) x h = cc

-- ---- the content

-- what refuses nothing is bound and signed
both_there : (content : SignatureContent) (b g : Bool) (x : ⊤) → first_refusal content b g ≡ Ok x → (b ≡ true) × (g ≡ true)
both_there (OfMessage message) true true x h = (refl, refl)
both_there (OfMessage message) true false x h = cc
both_there (OfMessage message) false g x h = cc
both_there (OfEnvelope envelope) true true x h = (refl, refl)
both_there (OfEnvelope envelope) false true x h = cc
both_there (OfEnvelope envelope) b false x h = cc

both_pass : (content : SignatureContent) → first_refusal content true true ≡ Ok tt
both_pass (OfMessage message) = refl
both_pass (OfEnvelope envelope) = refl

-- the signature is over a subject, and good
abbrev pub Signs : Judge → VerificationKey → Option (List ℕ) → List ℕ → Type 0
Signs accepts key o signature = (subject : List ℕ) × (o ≡ Some subject) × IsTrue (is_good_over accepts key subject signature)

signs : (accepts : Judge) (key : VerificationKey) (o : Option (List ℕ)) (signature : List ℕ) → is_good_of accepts key o signature ≡ true → Signs accepts key o signature
signs accepts key None signature h = cc
signs accepts key (Some subject) signature h = (subject, refl, h)

signed : (accepts : Judge) (key : VerificationKey) (o : Option (List ℕ)) (signature : List ℕ) → Signs accepts key o signature → is_good_of accepts key o signature ≡ true
signed accepts key o signature s = ap (λ o. is_good_of accepts key o signature) s.1 ∙ s.2

abbrev subject_of : VerificationKey → SignatureContent → Artifact → Option (List ℕ)
subject_of key content artifact = subject_in key.scheme content (digest_of artifact) (bytes_of artifact)

content_means : (accepts : Judge) (key : VerificationKey) (content : SignatureContent) (claim : Claim) (artifact : Artifact) (x : ⊤)
    → content_judged_of accepts key content claim (digest_of artifact) (bytes_of artifact) ≡ Ok x
    → IsBound claim artifact × Signs accepts key (subject_of key content artifact) (signature_in content)
content_means accepts key content claim artifact x h =
    let two = both_there content (is_bound claim (digest_of artifact)) (is_signed accepts key content (digest_of artifact) (bytes_of artifact)) x h in
    (bound_so claim artifact two.0, signs accepts key (subject_of key content artifact) (signature_in content) two.1)

content_accepted : (accepts : Judge) (key : VerificationKey) (content : SignatureContent) (claim : Claim) (artifact : Artifact)
    → IsBound claim artifact → Signs accepts key (subject_of key content artifact) (signature_in content)
    → content_judged_of accepts key content claim (digest_of artifact) (bytes_of artifact) ≡ Ok tt
content_accepted accepts key content claim artifact b s =
    ap (λ b. first_refusal content b (is_signed accepts key content (digest_of artifact) (bytes_of artifact))) (so_bound claim artifact b)
    ∙ ap (first_refusal content true) (signed accepts key (subject_of key content artifact) (signature_in content) s)
    ∙ both_pass content

-- ---- who signed

pub ok_info : {A : Type 0} (r : Result A CryptoError) (x : A) → by_info r ≡ Ok x → r ≡ Ok x
ok_info (Ok y) x h = cc
ok_info (Err e) x h = cc

keyed_means : (content : VerificationMaterialContent) (x : ⊤) → keyed_of content ≡ Ok x → (hint : Option (List ℕ)) × (content ≡ material.PublicKey hint)
keyed_means (material.PublicKey hint) x h = (hint, refl)
keyed_means (material.Certificate certificate) x h = cc
keyed_means (material.X509CertificateChain chain) x h = cc

pub named_means : (o : Option (List ℕ)) (certificate : List ℕ) → named_of o ≡ Ok certificate → o ≡ Some certificate
named_means None certificate h = cc
named_means (Some c) certificate h = ap Some (ok_same c certificate h)

abbrev after_keyed : PublicKeyVerificationPolicy → Bundle → Result Signer Error
after_keyed policy bundle = by_types (structure_of bundle policy.verify_tlog) >>= λ _. Ok (Managed policy)

abbrev pub after_info : VerificationPolicy → List ℕ → CertificateInfo → Result Signer Error
after_info policy certificate info = Ok (Certified policy info certificate)

abbrev pub after_named : VerificationPolicy → List ℕ → Result Signer Error
after_named policy certificate = by_info (info_of certificate) >>= after_info policy certificate

abbrev pub after_structure : VerificationPolicy → Bundle → Result Signer Error
after_structure policy bundle = named_of (certificate_in bundle) >>= after_named policy

pub signer_means : (policy : Meaning) (bundle : Bundle) (signer : Signer) → signer_of policy bundle ≡ Ok signer → IsSigner policy bundle signer
unfolding managed_of owner_of
signer_means (PublicKey policy) bundle signer h =
    let k = step_ok (keyed_of (material_in bundle)) (λ _. after_keyed policy bundle) signer h in
    let key = keyed_means (material_in bundle) k.0 k.1 in
    let a = step_ok (by_types (structure_of bundle policy.verify_tlog)) (λ _. Ok (Managed policy)) signer k.2 in
    record {
      hint = key.0;
      keyed = key.1;
      structure = through_types (structure_of bundle policy.verify_tlog) a.0 a.1;
      is = sym (ok_same (Managed policy) signer a.2);
    }
signer_means (Certificate policy) bundle signer h =
    let a = step_ok (by_types (structure_of bundle policy.verify_tlog)) (λ _. after_structure policy bundle) signer h in
    let b = step_ok (named_of (certificate_in bundle)) (after_named policy) signer a.2 in
    let c = step_ok (by_info (info_of b.0)) (after_info policy b.0) signer b.2 in
    record {
      structure = through_types (structure_of bundle policy.verify_tlog) a.0 a.1;
      certificate = b.0;
      named = named_means (certificate_in bundle) b.0 b.1;
      info = c.0;
      says = ok_info (info_of b.0) c.0 c.1;
      is = sym (ok_same (Certified policy c.0 b.0) signer c.2);
    }

pub signer_passes : (policy : Meaning) (bundle : Bundle) (signer : Signer) → IsSigner policy bundle signer → signer_of policy bundle ≡ Ok signer
unfolding managed_of owner_of
signer_passes (PublicKey policy) bundle signer i =
    ap (λ content. keyed_of content >>= λ _. after_keyed policy bundle) i.keyed
    ∙ ap (λ r. by_types r >>= λ _. Ok (Managed policy)) i.structure ∙ ap Ok (sym i.is)
signer_passes (Certificate policy) bundle signer i =
    ap (λ r. by_types r >>= λ _. after_structure policy bundle) i.structure
    ∙ ap (λ o. named_of o >>= after_named policy) i.named
    ∙ ap (λ r. by_info r >>= after_info policy i.certificate) i.says
    ∙ ap Ok (sym i.is)

-- ---- what is prepared

abbrev pub after_claim : Signer → VerificationKey → SigningScheme → Claim → Result Ready Error
after_claim signer key scheme claim = Ok (ready_with signer (key_with scheme key) claim)

abbrev pub after_scheme : Kind → Signer → VerificationKey → Bundle → SigningScheme → Result Ready Error
after_scheme kind signer key bundle scheme = claimed_of kind scheme bundle.content >>= after_claim signer key scheme

abbrev pub after_key : Kind → Signer → Bundle → VerificationKey → Result Ready Error
after_key kind signer bundle key = by_crypto (scheme_of key.scheme bundle.content) >>= after_scheme kind signer key bundle

abbrev pub after_signer : Kind → Bundle → Signer → Result Ready Error
after_signer kind bundle signer = by_crypto (spki_key_of (key_in signer)) >>= after_key kind signer bundle

-- a claim, where the artifact serves
abbrev pub served : Kind → SigningScheme → SignatureContent → Claim → Result Claim Error
served kind scheme content claim = supported_of kind (signs_digest scheme content) (needed_of scheme claim) >>= λ _. Ok claim

-- the parts of what was prepared
pub record Prepared (kind : Kind) (policy : Meaning) (bundle : Bundle) (ready : Ready) : Type 0 where
  pub signer : Signer
  pub is : IsSigner policy bundle signer
  pub key : VerificationKey
  pub read : spki_key_of (key_in signer) ≡ Ok key
  pub scheme : SigningScheme
  pub chosen : scheme_of key.scheme bundle.content ≡ Ok scheme
  pub claim : Claim
  pub claims : claim_of bundle.content ≡ Ok claim
  pub supported : supported_of kind (signs_digest scheme bundle.content) (needed_of scheme claim) ≡ Ok tt
  pub same : ready ≡ ready_with signer (key_with scheme key) claim

pub prepared_means : (kind : Kind) (policy : Meaning) (bundle : Bundle) (ready : Ready) → prepared_of kind policy bundle ≡ Ok ready → Prepared kind policy bundle ready
unfolding prepared_of ready_of
prepared_means kind policy bundle ready h =
    let a = step_ok (signer_of policy bundle) (after_signer kind bundle) ready h in
    let b = step_ok (by_crypto (spki_key_of (key_in a.0))) (after_key kind a.0 bundle) ready a.2 in
    let c = step_ok (by_crypto (scheme_of (b.0).scheme bundle.content)) (after_scheme kind a.0 b.0 bundle) ready b.2 in
    let d = step_ok (claimed_of kind c.0 bundle.content) (after_claim a.0 b.0 c.0) ready c.2 in
    let e = step_ok (claim_of bundle.content) (served kind c.0 bundle.content) d.0 d.1 in
    let f = step_ok (supported_of kind (signs_digest c.0 bundle.content) (needed_of c.0 e.0)) (λ _. Ok e.0) d.0 e.2 in
    let same = ok_same e.0 d.0 f.2 in
    record {
      signer = a.0;
      is = signer_means policy bundle a.0 a.1;
      key = b.0;
      read = ok_crypto (spki_key_of (key_in a.0)) b.0 b.1;
      scheme = c.0;
      chosen = ok_crypto (scheme_of (b.0).scheme bundle.content) c.0 c.1;
      claim = e.0;
      claims = e.1;
      supported = f.1;
      same = sym (ap (ready_with a.0 (key_with c.0 b.0)) same ∙ ok_same (ready_with a.0 (key_with c.0 b.0) d.0) ready d.2);
    }

-- what was prepared for an artifact that is read or is a blob has hashers alone
pub all_hashed : (kind : Kind) (signs : Bool) (needed : List HashAlgorithm) → kind.has ≡ is_hashed → supported_of kind signs needed ≡ Ok tt
    → list_all is_hashed needed ≡ true
all_hashed kind signs needed is h = by_test (signs || kind.keeps_bytes) (list_all kind.has needed) refl h
  where
    by_test : (a b : Bool) → list_all kind.has needed ≡ b → ◌≡◌ {A = Result ⊤ Error} (if a then (if b then Ok tt else Err kind.lacking) else Err UnsupportedArtifact) (Ok tt) → list_all is_hashed needed ≡ true
    by_test true true e k = subst (λ t. list_all t needed ≡ true) is e
    by_test true false e k = cc
    by_test false b e k = cc

-- ---- what vouches for the signer

module _ (grounds : Grounds) (policy : PublicKeyVerificationPolicy) (bundle : Bundle) where
  abbrev managed_logs : ℕ
  managed_logs = log_count_of grounds policy.verify_tlog (entries_in bundle)

  abbrev managed_parties : Parties
  managed_parties = parties_of grounds policy.verify_tlog bundle

  abbrev after_stamped : List Timestamp → List Timestamp → Result Evidence Error
  after_stamped promised stamped = Ok (managed_evidence promised stamped managed_logs managed_parties)

  abbrev after_counted : List Timestamp → ⊤ → Result Evidence Error
  after_counted promised u = tokens_judged_of grounds (signature_in bundle.content) (tokens_in bundle) >>= after_stamped promised

  abbrev after_promised : List Timestamp → Result Evidence Error
  after_promised promised = logs_judged_of policy.verify_tlog policy.logs managed_logs >>= after_counted promised

  managed_means : (evidence : Evidence) → managed_vouched_of grounds policy bundle ≡ Ok evidence → ManagedVouches grounds policy bundle evidence
  unfolding managed_vouched_of
  managed_means evidence h =
      let a = step_ok (log_judged_of grounds (Managed policy) policy.verify_tlog (entries_in bundle)) after_promised evidence h in
      let c = step_ok (logs_judged_of policy.verify_tlog policy.logs managed_logs) (after_counted a.0) evidence a.2 in
      let b = step_ok (tokens_judged_of grounds (signature_in bundle.content) (tokens_in bundle)) (after_stamped a.0) evidence c.2 in
      let l = are_logged grounds (Managed policy) policy.verify_tlog (entries_in bundle) a.0 a.1 in
      record {
        logged = l.0;
        enough = enough_means grounds policy.logs policy.verify_tlog (entries_in bundle) c.0 c.1;
        stamped = b.0;
        are = are_stamped grounds (signature_in bundle.content) (tokens_in bundle) b.0 b.1;
        shows =
            sym (ok_same (managed_evidence a.0 b.0 managed_logs managed_parties) evidence b.2)
            ∙ ap (λ promised. managed_evidence promised b.0 managed_logs managed_parties) l.1;
      }

  managed_passes : (evidence : Evidence) → ManagedVouches grounds policy bundle evidence → managed_vouched_of grounds policy bundle ≡ Ok evidence
  unfolding managed_vouched_of
  managed_passes evidence v =
      let promised = told_if policy.verify_tlog (entries_in bundle) in
      ap (λ r. r >>= after_promised) (log_accepted grounds (Managed policy) policy.verify_tlog (entries_in bundle) v.logged)
      ∙ ap (λ r. r >>= after_counted promised) (enough_passes grounds policy.logs policy.verify_tlog (entries_in bundle) v.enough)
      ∙ ap (λ r. r >>= after_stamped promised) (stamped_pass grounds (signature_in bundle.content) (tokens_in bundle) v.stamped v.are)
      ∙ ap Ok (sym v.shows)

ok_certificate : (r : Result ℕ CertificateRefusal) (x : ℕ) → by_certificate r ≡ Ok x → r ≡ Ok x
ok_certificate (Ok y) x h = ap Ok (ok_same y x h)
ok_certificate (Err e) x h = cc

module _ (grounds : Grounds) (policy : VerificationPolicy) (info : CertificateInfo) (certificate : List ℕ) (bundle : Bundle) where
  abbrev pub owner_logs : ℕ
  owner_logs = log_count_of grounds policy.verify_tlog (entries_in bundle)

  abbrev pub owner_parties : Parties
  owner_parties = parties_of grounds true bundle

  abbrev pub after_enough : List Timestamp → ℕ → List Timestamp → ⊤ → Result Evidence Error
  after_enough times scts promised u = Ok (owner_evidence times scts promised owner_logs owner_parties)

  abbrev pub after_logged : List Timestamp → ℕ → List Timestamp → Result Evidence Error
  after_logged times scts promised = logs_judged_of policy.verify_tlog policy.logs owner_logs >>= after_enough times scts promised

  abbrev pub after_certified : List Timestamp → ℕ → Result Evidence Error
  after_certified times scts = log_judged_of grounds (Certified policy info certificate) policy.verify_tlog (entries_in bundle) >>= after_logged times scts

  abbrev pub after_verified : List Timestamp → Result Evidence Error
  after_verified times = by_certificate (certified_of (trust_in grounds) policy info certificate (intermediates_in bundle) times) >>= after_certified times

  owner_means : (evidence : Evidence) → owner_vouched_of grounds policy info certificate bundle ≡ Ok evidence → OwnerVouches grounds policy info certificate bundle evidence
  unfolding owner_vouched_of
  owner_means evidence h =
      let a = step_ok (verified_of grounds bundle) after_verified evidence h in
      let b = step_ok (by_certificate (certified_of (trust_in grounds) policy info certificate (intermediates_in bundle) a.0)) (after_certified a.0) evidence a.2 in
      let c = step_ok (log_judged_of grounds (Certified policy info certificate) policy.verify_tlog (entries_in bundle)) (after_logged a.0 b.0) evidence b.2 in
      let d = step_ok (logs_judged_of policy.verify_tlog policy.logs owner_logs) (after_enough a.0 b.0 c.0) evidence c.2 in
      let l = are_logged grounds (Certified policy info certificate) policy.verify_tlog (entries_in bundle) c.0 c.1 in
      record {
        times = a.0;
        verified = verified_means grounds bundle a.0 a.1;
        scts = b.0;
        certified = (certified_exactly (trust_in grounds) policy info certificate (intermediates_in bundle) a.0 b.0).0
            (ok_certificate (certified_of (trust_in grounds) policy info certificate (intermediates_in bundle) a.0) b.0 b.1);
        logged = l.0;
        enough = enough_means grounds policy.logs policy.verify_tlog (entries_in bundle) d.0 d.1;
        shows =
            sym (ok_same (owner_evidence a.0 b.0 c.0 owner_logs owner_parties) evidence d.2)
            ∙ ap (λ promised. owner_evidence a.0 b.0 promised owner_logs owner_parties) l.1;
      }

  owner_passes : (evidence : Evidence) → OwnerVouches grounds policy info certificate bundle evidence → owner_vouched_of grounds policy info certificate bundle ≡ Ok evidence
  unfolding owner_vouched_of
  owner_passes evidence v =
      ap (λ r. r >>= after_verified) (verified_passes grounds bundle v.times v.verified)
      ∙ ap (λ r. by_certificate r >>= after_certified v.times) ((certified_exactly (trust_in grounds) policy info certificate (intermediates_in bundle) v.times v.scts).1 v.certified)
      ∙ ap (λ r. r >>= after_logged v.times v.scts) (log_accepted grounds (Certified policy info certificate) policy.verify_tlog (entries_in bundle) v.logged)
      ∙ ap (λ r. r >>= after_enough v.times v.scts (told_if policy.verify_tlog (entries_in bundle)))
      (enough_passes grounds policy.logs policy.verify_tlog (entries_in bundle) v.enough)
      ∙ ap Ok (sym v.shows)

pub vouches_means : (grounds : Grounds) (signer : Signer) (bundle : Bundle) (evidence : Evidence) → vouched_of grounds signer bundle ≡ Ok evidence → Vouches grounds signer bundle evidence
vouches_means grounds (Managed policy) bundle evidence h = managed_means grounds policy bundle evidence h
vouches_means grounds (Certified policy info certificate) bundle evidence h = owner_means grounds policy info certificate bundle evidence h

vouches_passes : (grounds : Grounds) (signer : Signer) (bundle : Bundle) (evidence : Evidence) → Vouches grounds signer bundle evidence → vouched_of grounds signer bundle ≡ Ok evidence
vouches_passes grounds (Managed policy) bundle evidence v = managed_passes grounds policy bundle evidence v
vouches_passes grounds (Certified policy info certificate) bundle evidence v = owner_passes grounds policy info certificate bundle evidence v

-- ---- both ways

module _ (terms : Terms) (bundle : Bundle) (artifact : Artifact) (report : VerificationResult) where
  abbrev after_ready : Ready → Result VerificationResult Error
  after_ready ready = judged_had terms.grounds ready bundle (digest_of artifact) (bytes_of artifact)

  abbrev after_met : Signer → Evidence → ⊤ → Result VerificationResult Error
  after_met signer evidence u = Ok (report_of signer evidence)

  abbrev after_described : Signer → Claim → Evidence → ⊤ → Result VerificationResult Error
  after_described signer claim evidence u = conditions_judged_of (conditions_in signer) claim evidence >>= after_met signer evidence

  abbrev after_content : Signer → Claim → Evidence → ⊤ → Result VerificationResult Error
  after_content signer claim evidence u =
      entries_described_of terms.grounds signer bundle (digest_of artifact) (entries_in bundle) >>= after_described signer claim evidence

  abbrev after_vouched : Signer → VerificationKey → Claim → Evidence → Result VerificationResult Error
  after_vouched signer key claim evidence =
      content_judged_of terms.grounds.crypto.accepts key bundle.content claim (digest_of artifact) (bytes_of artifact) >>= after_content signer claim evidence

  had_means : (ready : Ready) → Prepared (kind_of artifact) terms.policy bundle ready → after_ready ready ≡ Ok report → Accepts terms bundle artifact report
  unfolding judged_had
  had_means ready p h =
      let k = subst (λ (ready : Ready). after_ready ready ≡ Ok report) p.same h in
      let under = key_with p.scheme p.key in
      let a = step_ok (vouched_of terms.grounds p.signer bundle) (after_vouched p.signer under p.claim) report k in
      let b = step_ok (content_judged_of terms.grounds.crypto.accepts under bundle.content p.claim (digest_of artifact) (bytes_of artifact)) (after_content p.signer p.claim a.0) report a.2 in
      let c = step_ok (entries_described_of terms.grounds p.signer bundle (digest_of artifact) (entries_in bundle)) (after_described p.signer p.claim a.0) report b.2 in
      let m = step_ok (conditions_judged_of (conditions_in p.signer) p.claim a.0) (after_met p.signer a.0) report c.2 in
      let q = content_means terms.grounds.crypto.accepts under bundle.content p.claim artifact b.0 b.1 in
      record {
        signer = p.signer;
        is = p.is;
        key = p.key;
        read = p.read;
        scheme = p.scheme;
        chosen = p.chosen;
        claim = p.claim;
        claims = p.claims;
        supported = p.supported;
        evidence = a.0;
        vouches = vouches_means terms.grounds p.signer bundle a.0 a.1;
        bound = q.0;
        subject = q.1.0;
        signs = q.1.1;
        signed = q.1.2;
        described = are_described terms.grounds p.signer bundle artifact (entries_in bundle) c.0 c.1;
        meets = conditions_mean (conditions_in p.signer) p.claim a.0 m.0 m.1;
        shows = sym (ok_same (report_of p.signer a.0) report m.2);
      }

  means : judged_of terms bundle artifact ≡ Ok report → Accepts terms bundle artifact report
  unfolding judged_of
  means h =
      let z = step_ok (prepared_of (kind_of artifact) terms.policy bundle) after_ready report h in
      had_means z.0 (prepared_means (kind_of artifact) terms.policy bundle z.0 z.1) z.2

  accepted : Accepts terms bundle artifact report → judged_of terms bundle artifact ≡ Ok report
  unfolding judged_of prepared_of ready_of judged_had
  accepted a =
      let kind = kind_of artifact in
      let under = key_with a.scheme a.key in
      ap (λ r. (r >>= after_signer kind bundle) >>= after_ready) (signer_passes terms.policy bundle a.signer a.is)
      ∙ ap (λ r. (by_crypto r >>= after_key kind a.signer bundle) >>= after_ready) a.read
      ∙ ap (λ r. (by_crypto r >>= after_scheme kind a.signer a.key bundle) >>= after_ready) a.chosen
      ∙ ap (λ r. ((r >>= served kind a.scheme bundle.content) >>= after_claim a.signer a.key a.scheme) >>= after_ready) a.claims
      ∙ ap (λ r. ((r >>= λ _. Ok a.claim) >>= after_claim a.signer a.key a.scheme) >>= after_ready) a.supported
      ∙ ap (λ r. r >>= after_vouched a.signer under a.claim) (vouches_passes terms.grounds a.signer bundle a.evidence a.vouches)
      ∙ ap (λ r. r >>= after_content a.signer a.claim a.evidence) (content_accepted terms.grounds.crypto.accepts under bundle.content a.claim artifact a.bound (a.subject, a.signs, a.signed))
      ∙ ap (λ r. r >>= after_described a.signer a.claim a.evidence) (described_pass terms.grounds a.signer bundle artifact (entries_in bundle) a.described)
      ∙ ap (λ r. r >>= after_met a.signer a.evidence) (conditions_pass (conditions_in a.signer) a.claim a.evidence a.meets)
      ∙ ap Ok (sym a.shows)

pub accepts_exactly : AcceptsExactly
accepts_exactly terms bundle artifact report = (means terms bundle artifact report, accepted terms bundle artifact report)
