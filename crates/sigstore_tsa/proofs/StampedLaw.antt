-- The judgement of a token gives a time exactly where the token is stamped then.
use Rattle.std.proofs.Common.{◌≡◌, ℕ, List, [], ◌∷◌, Bool, true, false, cond, ◌&&◌, Option, Some, None, Result, Ok, Err, refl, sym, ap, ◌∙◌, subst}
use Rattle.std.specs.Prelude.{⊤, bytes_eq, IsTrue}
use Rattle.std.proofs.lemmas.Slice.Eq.{bytes_eq-Decides}
use Rattle.foundation.specs.Steps.{◌>>=◌}
use Rattle.foundation.specs.Results.{step_ok, ok_same, err_same, refused_at, and_true}
use Rattle.jiff_core.specs.declared.timestamp.Timestamp.{Timestamp}
use Rattle.der_grammar.specs.Grammar.{read_all}
use Rattle.der_grammar.specs.Octets.{octet_string_type}
use Rattle.der_grammar.specs.Outcome.{Outcome}
use Rattle.x509_core.specs.declared.attribute.Attribute.{Attribute}
use Rattle.x509_views.specs.Certificates.{Certificate, certificate_of}
use Rattle.cms_parts.specs.declared.content_info.ContentInfo.{ContentInfo}
use Rattle.cms_parts.specs.declared.signed_data.EncapsulatedContentInfo.{EncapsulatedContentInfo}
use Rattle.cms_parts.specs.declared.signed_data.SignedData.{SignedData}
use Rattle.cms_parts.specs.declared.signed_data.SignerInfo.{SignerInfo}
use Rattle.cms_parts.specs.ContentInfo.{content_info_type}
use Rattle.cms_parts.specs.Identifiers.{signed_data_oid, message_digest_oid}
use Rattle.cms_parts.specs.SignedData.{signed_data_type}
use Rattle.sigstore_types_parts.specs.declared.hash_algorithm.HashAlgorithm.{HashAlgorithm}
use Rattle.sigstore_types_parts.specs.declared.time_range.TimeRange.{TimeRange}
use Rattle.sigstore_types_parts.specs.TimeRange.{has_started, ends_by, contains}
use Rattle.sigstore_types.specs.declared.authority.TsaAuthority.{TsaAuthority}
use Rattle.sigstore_keys.specs.declared.error.Error.{Error as CryptoError}
use Rattle.sigstore_keys.specs.declared.key.VerificationKey.{VerificationKey}
use Rattle.sigstore_keys.specs.declared.scheme.KeyAlgorithm.{KeyAlgorithm}
use Rattle.sigstore_keys.specs.declared.scheme.KeyAlgorithm.TheVariants as sort
use Rattle.sigstore_keys.specs.Key.{spki_key_under}
use Rattle.sigstore_keys.specs.KeyAlgorithm.{algorithm_of_spki}
use Rattle.sigstore_keys.specs.Scheme.{resolved_of}
use Rattle.sigstore_keys.specs.Digest.{digest_by}
use Rattle.sigstore_keys.specs.Good.{Judge}
use Rattle.sigstore_keys.specs.Keyring.{is_used_at}
use Rattle.path_core.specs.declared.route.FoundPath.{FoundPath}
use Rattle.path_core.specs.Anchors.{may_anchor, is_since_1970}
use Rattle.path_core.specs.Path.{path_of}
use Rattle.path_core.specs.Traits.{window_of}
use Rattle.path_core.proofs.FirstPath.{path_exactly}
use Rattle.sigstore_tsa_parts.specs.declared.content.TokenContent.{TokenContent}
use Rattle.sigstore_tsa_parts.specs.declared.error.CertificateFault.{CertificateFault}
use Rattle.sigstore_tsa_parts.specs.declared.error.CertificateFault.TheVariants as fault
use Rattle.sigstore_tsa_parts.specs.declared.error.Error.{Error}
use Rattle.sigstore_tsa_parts.specs.declared.error.Error.TheVariants.{SignatureVerificationError, HashMismatch, NoTstInfo, CertificateValidationError, Parse, TimestampOutsideValidity}
use Rattle.sigstore_tsa_parts.specs.declared.error.ParseRule.{ParseRule}
use Rattle.sigstore_tsa_parts.specs.declared.error.ParseRule.TheVariants as parse
use Rattle.sigstore_tsa_parts.specs.declared.error.SignatureRule.{SignatureRule}
use Rattle.sigstore_tsa_parts.specs.declared.error.SignatureRule.TheVariants as rule
use Rattle.sigstore_tsa_parts.specs.declared.response.TimeStampResp.{TimeStampResp}
use Rattle.sigstore_tsa_parts.specs.Content.{value_in, is_granted, token_of, content_info_by, content_info_of, signed_data_of, octets_of, content_of, tst_info_of, said_of, content_in, token_content_of}
use Rattle.sigstore_tsa_parts.specs.Error.{Judged, or_parse, ok_or_parse}
use Rattle.sigstore_tsa_parts.specs.Identifiers.{digest_named, tst_info_oid}
use Rattle.sigstore_tsa_parts.specs.Types.{time_stamp_resp_type, tst_info_type}
use Rattle.sigstore_tsa.specs.declared.stamp.Stamp.{Stamp}
use Rattle.sigstore_tsa.specs.Signer.{or_rule, some_or_rule, check, first_signer, leaf_read, is_named, named_of, only_from, only_value, digest_in, values_in, digest_told_of, curve_read, key_of, is_signed, signed_of}
use Rattle.sigstore_tsa.specs.Stamp.{known, same_digest, imprint_judged_of, time_of, time_judged, told_of, stamp_at, stamp_of}
use Rattle.sigstore_tsa.specs.Stamped.{under_of, stamped_of, Tells, Signs, Certifies, IsOf, Stamped, IsOutside, StampedExactly, OutsideExactly}
use Rattle.sigstore_tsa.specs.Vouched.{or_fault, setting_of, within_validity, within_window, vouched_of}

-- ---- single steps

pub known_is : (which : ParseRule) (o : Option HashAlgorithm) (x : HashAlgorithm) → ok_or_parse which o ≡ Ok x → o ≡ Some x
known_is which (Some y) x h = ap Some (ok_same y x h)
known_is which None x h = cc

pub some_is : {A : Type 0} (which : SignatureRule) (o : Option A) (x : A) → some_or_rule which o ≡ Ok x → o ≡ Some x
some_is which (Some y) x h = ap Some (ok_same y x h)
some_is which None x h = cc

pub rule_is : {A E : Type 0} (which : SignatureRule) (r : Result A E) (x : A) → or_rule which r ≡ Ok x → r ≡ Ok x
rule_is which (Ok y) x h = ap Ok (ok_same y x h)
rule_is which (Err e) x h = cc

fault_is : {A E : Type 0} (which : CertificateFault) (r : Result A E) (x : A) → or_fault which r ≡ Ok x → r ≡ Ok x
fault_is which (Ok y) x h = ap Ok (ok_same y x h)
fault_is which (Err e) x h = cc

checked : (e : Error) (b : Bool) (x : ⊤) → ◌≡◌ {A = Judged ⊤} (cond b (Ok tt) (Err e)) (Ok x) → b ≡ true
checked e true x h = refl
checked e false x h = cc

checks : (e : Error) (b : Bool) → b ≡ true → ◌≡◌ {A = Judged ⊤} (cond b (Ok tt) (Err e)) (Ok tt)
checks e b h = ap (λ b. cond b (Ok tt) (Err e)) h

same_is : (told actual : List ℕ) (x : ⊤) → same_digest told actual ≡ Ok x → told ≡ actual
same_is told actual x h = (bytes_eq-Decides told actual).0 (checked (HashMismatch told actual) (bytes_eq told actual) x h)

is_same : (told actual : List ℕ) → told ≡ actual → same_digest told actual ≡ Ok tt
is_same told actual e = checks (HashMismatch told actual) (bytes_eq told actual) ((bytes_eq-Decides told actual).1 e)

timely : (b : Bool) (time other : Timestamp) → ◌≡◌ {A = Judged Timestamp} (cond b (Ok time) (Err (Parse parse.Time))) (Ok other) → (b ≡ true) × (time ≡ other)
timely true time other h = (refl, ok_same time other h)
timely false time other h = cc

-- ---- what the token tells

pub tells : (content : TokenContent) (signature : List ℕ) (time : Timestamp) → told_of content signature ≡ Ok time → Tells content signature time
unfolding told_of imprint_judged_of
tells content signature time h =
    let imprint = content.info.message_imprint in
    let a = step_ok (imprint_judged_of imprint signature) (λ _. time_judged (time_of content.info.gen_time)) time h in
    let b = step_ok (known parse.ImprintAlgorithm imprint.hash_algorithm.algorithm) (λ algorithm. same_digest imprint.hashed_message (digest_by algorithm signature)) a.0 a.1 in
    let t = timely (is_since_1970 (time_of content.info.gen_time)) (time_of content.info.gen_time) time a.2 in
    record {
      algorithm = b.0;
      algorithm_is = known_is parse.ImprintAlgorithm (digest_named imprint.hash_algorithm.algorithm) b.0 b.1;
      imprint = same_is imprint.hashed_message (digest_by b.0 signature) a.0 b.2;
      time_is = sym t.1;
      since = subst (λ (t : Timestamp). is_since_1970 t ≡ true) t.1 t.0;
    }

tells_back : (content : TokenContent) (signature : List ℕ) (time : Timestamp) → Tells content signature time → told_of content signature ≡ Ok time
unfolding told_of imprint_judged_of
tells_back content signature time t =
    let imprint = content.info.message_imprint in
    let after : ⊤ → Judged Timestamp = λ _. time_judged (time_of content.info.gen_time) in
    let since : is_since_1970 (time_of content.info.gen_time) ≡ true = subst (λ (t : Timestamp). is_since_1970 t ≡ true) t.time_is t.since in
    ap (λ o. (ok_or_parse parse.ImprintAlgorithm o >>= λ algorithm. same_digest imprint.hashed_message (digest_by algorithm signature)) >>= after) t.algorithm_is
    ∙ ap (λ r. r >>= after) (is_same imprint.hashed_message (digest_by t.algorithm signature) t.imprint)
    ∙ ap (λ b. cond b (Ok (time_of content.info.gen_time)) (Err (Parse parse.Time))) since
    ∙ ap Ok (sym t.time_is)

-- ---- who is named

pub record Named (signers : List SignerInfo) (leaf : List ℕ) (named : SignerInfo × Certificate) : Type 0 where
  pub others : List SignerInfo
  pub first : signers ≡ named.0 ∷ others
  pub leaf_is : certificate_of leaf ≡ Ok named.1
  pub names : IsTrue (is_named named.0.sid named.1)

pub first_is : (signers : List SignerInfo) (signer : SignerInfo) → first_signer signers ≡ Ok signer → (others : List SignerInfo) × (signers ≡ signer ∷ others)
first_is [] signer h = cc
first_is (one ∷ others) signer h = (others, ap (λ s. s ∷ others) (ok_same one signer h))

named_means : (signers : List SignerInfo) (leaf : List ℕ) (named : SignerInfo × Certificate) → named_of signers leaf ≡ Ok named → Named signers leaf named
unfolding named_of
named_means signers leaf named h =
    let a = step_ok (first_signer signers) (λ signer. leaf_read (certificate_of leaf) >>= λ certificate. check rule.SignerIdentifier (is_named signer.sid certificate) >>= λ _. Ok (signer, certificate)) named h in
    let b = step_ok (leaf_read (certificate_of leaf)) (λ certificate. check rule.SignerIdentifier (is_named (a.0).sid certificate) >>= λ _. Ok (a.0, certificate)) named a.2 in
    let c = step_ok (check rule.SignerIdentifier (is_named (a.0).sid b.0)) (λ _. Ok (a.0, b.0)) named b.2 in
    let f = first_is signers a.0 a.1 in
    subst (Named signers leaf) (ok_same (a.0, b.0) named c.2) (record {
      others = f.0;
      first = f.1;
      leaf_is = rule_is rule.Certificate (certificate_of leaf) b.0 b.1;
      names = checked (SignatureVerificationError rule.SignerIdentifier) (is_named (a.0).sid b.0) c.0 c.1;
    })

named_passes : (signers : List SignerInfo) (leaf : List ℕ) (named : SignerInfo × Certificate) → Named signers leaf named → named_of signers leaf ≡ Ok named
unfolding named_of
named_passes signers leaf named n =
    ap (λ s. first_signer s >>= λ signer. leaf_read (certificate_of leaf) >>= λ certificate. check rule.SignerIdentifier (is_named signer.sid certificate) >>= λ _. Ok (signer, certificate)) n.first
    ∙ ap (λ r. leaf_read r >>= λ certificate. check rule.SignerIdentifier (is_named named.0.sid certificate) >>= λ _. Ok (named.0, certificate)) n.leaf_is
    ∙ ap (λ r. r >>= λ _. Ok (named.0, named.1)) (checks (SignatureVerificationError rule.SignerIdentifier) (is_named named.0.sid named.1) n.names)

-- ---- what was signed

module _ (accepts : Judge) (octets : List ℕ) (signer : SignerInfo) (leaf : Certificate) where
  abbrev spki : List ℕ
  spki = leaf.signed.middle.spki

  abbrev after_key : List Attribute → VerificationKey → Judged ⊤
  after_key attributes key = check rule.Signature (is_signed accepts key attributes signer.signature)

  abbrev after_same : List Attribute → HashAlgorithm → ⊤ → Judged ⊤
  after_same attributes digest u = key_of spki digest >>= after_key attributes

  abbrev after_digest : List Attribute → List ℕ → HashAlgorithm → Judged ⊤
  after_digest attributes told digest = same_digest told (digest_by digest octets) >>= after_same attributes digest

  abbrev after_told : List Attribute → List ℕ → Judged ⊤
  after_told attributes told = known parse.SignerAlgorithm signer.digest_alg.oid >>= after_digest attributes told

  abbrev after_attributes : List Attribute → Judged ⊤
  after_attributes attributes = digest_told_of attributes >>= after_told attributes

  signed_means : (x : ⊤) → signed_of accepts octets signer spki ≡ Ok x → Signs accepts octets signer leaf
  unfolding signed_of
  signed_means x h =
      let a = step_ok (some_or_rule rule.SignedAttributes signer.signed_attrs) after_attributes x h in
      let b = step_ok (digest_told_of a.0) (after_told a.0) x a.2 in
      let c = step_ok (known parse.SignerAlgorithm signer.digest_alg.oid) (after_digest a.0 b.0) x b.2 in
      let d = step_ok (same_digest b.0 (digest_by c.0 octets)) (after_same a.0 c.0) x c.2 in
      let e = step_ok (key_of spki c.0) (after_key a.0) x d.2 in
      record {
        attributes = a.0;
        attributes_are = some_is rule.SignedAttributes signer.signed_attrs a.0 a.1;
        digest = c.0;
        digest_is = known_is parse.SignerAlgorithm (digest_named signer.digest_alg.oid) c.0 c.1;
        told = b.1 ∙ ap Ok (same_is b.0 (digest_by c.0 octets) d.0 d.1);
        key = e.0;
        key_is = e.1;
        good = checked (SignatureVerificationError rule.Signature) (is_signed accepts e.0 a.0 signer.signature) x e.2;
      }

  signed_passes : Signs accepts octets signer leaf → signed_of accepts octets signer spki ≡ Ok tt
  unfolding signed_of
  signed_passes s =
      ap (λ o. some_or_rule rule.SignedAttributes o >>= after_attributes) s.attributes_are
      ∙ ap (λ r. r >>= after_told s.attributes) s.told
      ∙ ap (λ o. ok_or_parse parse.SignerAlgorithm o >>= after_digest s.attributes (digest_by s.digest octets)) s.digest_is
      ∙ ap (λ r. r >>= after_same s.attributes s.digest) (is_same (digest_by s.digest octets) (digest_by s.digest octets) refl)
      ∙ ap (λ r. r >>= after_key s.attributes) s.key_is
      ∙ checks (SignatureVerificationError rule.Signature) (is_signed accepts s.key s.attributes signer.signature) s.good

-- ---- the certificates and the window

validity_means : (range : TimeRange) (time : Timestamp) (x : ⊤) → within_validity range time ≡ Ok x → contains range time ≡ true
validity_means range time x h = by (has_started range time) (ends_by range.end time) refl refl h
  where
    by : (a b : Bool) → has_started range time ≡ a → ends_by range.end time ≡ b
        → ◌≡◌ {A = Judged ⊤} (cond a (cond b (Ok tt) (Err (CertificateValidationError fault.Expired))) (Err (CertificateValidationError fault.NotYetValid))) (Ok x) → contains range time ≡ true
    by true true p q k = ap (λ a. a && ends_by range.end time) p ∙ q
    by true false p q k = cc
    by false b p q k = cc

validity_passes : (range : TimeRange) (time : Timestamp) → contains range time ≡ true → within_validity range time ≡ Ok tt
validity_passes range time h =
    let two = and_true (has_started range time) (ends_by range.end time) h in
    ap (λ a. cond a (cond (ends_by range.end time) (Ok tt) (Err (CertificateValidationError fault.Expired))) (Err (CertificateValidationError fault.NotYetValid))) two.0
    ∙ checks (CertificateValidationError fault.Expired) (ends_by range.end time) two.1

module _ (accepts : Judge) (authority : TsaAuthority) (leaf : Certificate) (time : Timestamp) where
  abbrev after_validity : ⊤ → Judged ⊤
  after_validity u = within_window authority.valid_for time

  abbrev after_path : FoundPath → Judged ⊤
  after_path path = within_validity (window_of leaf) time >>= after_validity

  abbrev after_root : ⊤ → Judged ⊤
  after_root u = or_fault fault.Path (path_of (setting_of accepts authority time)) >>= after_path

  certified : (x : ⊤) → vouched_of accepts authority leaf time ≡ Ok x → Certifies accepts authority leaf time × (is_used_at time authority.valid_for ≡ true)
  unfolding vouched_of
  certified x h =
      let a = step_ok (or_fault fault.Root (may_anchor authority.root)) after_root x h in
      let b = step_ok (or_fault fault.Path (path_of (setting_of accepts authority time))) after_path x a.2 in
      let c = step_ok (within_validity (window_of leaf) time) after_validity x b.2 in (
        record {
          root = fault_is fault.Root (may_anchor authority.root) a.0 a.1;
          path = b.0;
          found = (path_exactly (setting_of accepts authority time) b.0).0 (fault_is fault.Path (path_of (setting_of accepts authority time)) b.0 b.1);
          validity = validity_means (window_of leaf) time c.0 c.1;
        },
        checked (TimestampOutsideValidity time) (is_used_at time authority.valid_for) x c.2,
      )

  to_window : Certifies accepts authority leaf time → vouched_of accepts authority leaf time ≡ within_window authority.valid_for time
  unfolding vouched_of
  to_window c =
      ap (λ r. or_fault fault.Root r >>= after_root) c.root
      ∙ ap (λ r. or_fault fault.Path r >>= after_path) ((path_exactly (setting_of accepts authority time) c.path).1 c.found)
      ∙ ap (λ r. r >>= after_validity) (validity_passes (window_of leaf) time c.validity)

-- ---- refusals that aren't of a window

abbrev pub NotOutside : Error → Type 0
NotOutside (TimestampOutsideValidity time) = ⊥
NotOutside _ = ⊤

by_parse : {A : Type 0} (which : ParseRule) (r : Outcome A) (e : Error) → or_parse which r ≡ Err e → NotOutside e
by_parse which (Ok x) e h = cc
by_parse which (Err d) e h = subst NotOutside (err_same (Parse which) e h) tt

by_known : {A : Type 0} (which : ParseRule) (o : Option A) (e : Error) → ok_or_parse which o ≡ Err e → NotOutside e
by_known which (Some x) e h = cc
by_known which None e h = subst NotOutside (err_same (Parse which) e h) tt

by_rule : {A E : Type 0} (which : SignatureRule) (r : Result A E) (e : Error) → or_rule which r ≡ Err e → NotOutside e
by_rule which (Ok x) e h = cc
by_rule which (Err d) e h = subst NotOutside (err_same (SignatureVerificationError which) e h) tt

by_some : {A : Type 0} (which : SignatureRule) (o : Option A) (e : Error) → some_or_rule which o ≡ Err e → NotOutside e
by_some which (Some x) e h = cc
by_some which None e h = subst NotOutside (err_same (SignatureVerificationError which) e h) tt

by_fault : {A E : Type 0} (which : CertificateFault) (r : Result A E) (e : Error) → or_fault which r ≡ Err e → NotOutside e
by_fault which (Ok x) e h = cc
by_fault which (Err d) e h = subst NotOutside (err_same (CertificateValidationError which) e h) tt

by_check : (d : Error) → NotOutside d → (b : Bool) (e : Error) → ◌≡◌ {A = Judged ⊤} (cond b (Ok tt) (Err d)) (Err e) → NotOutside e
by_check d n true e h = cc
by_check d n false e h = subst NotOutside (err_same d e h) n

by_same : (told actual : List ℕ) (e : Error) → same_digest told actual ≡ Err e → NotOutside e
by_same told actual e h = by_check (HashMismatch told actual) tt (bytes_eq told actual) e h

by_time : (b : Bool) (time : Timestamp) (e : Error) → ◌≡◌ {A = Judged Timestamp} (cond b (Ok time) (Err (Parse parse.Time))) (Err e) → NotOutside e
by_time true time e h = cc
by_time false time e h = subst NotOutside (err_same (Parse parse.Time) e h) tt

by_first : (signers : List SignerInfo) (e : Error) → first_signer signers ≡ Err e → NotOutside e
by_first [] e h = subst NotOutside (err_same (SignatureVerificationError rule.NoSigner) e h) tt
by_first (signer ∷ others) e h = cc

by_digest : (o : Option (ℕ × List ℕ)) (e : Error) → digest_in o ≡ Err e → NotOutside e
by_digest None e h = subst NotOutside (err_same (SignatureVerificationError rule.MessageDigest) e h) tt
by_digest (Some value) e h = by_rule rule.MessageDigest (value_in octet_string_type.grammar value) e h

by_curve : (r : Result KeyAlgorithm CryptoError) (e : Error) → curve_read r ≡ Err e → NotOutside e
by_curve (Ok sort.EcdsaP256) e h = cc
by_curve (Ok sort.EcdsaP384) e h = cc
by_curve (Ok sort.Ed25519) e h = subst NotOutside (err_same (SignatureVerificationError rule.Key) e h) tt
by_curve (Ok sort.Rsa) e h = subst NotOutside (err_same (SignatureVerificationError rule.Key) e h) tt
by_curve (Ok sort.MlDsa44) e h = subst NotOutside (err_same (SignatureVerificationError rule.Key) e h) tt
by_curve (Ok sort.MlDsa65) e h = subst NotOutside (err_same (SignatureVerificationError rule.Key) e h) tt
by_curve (Ok sort.MlDsa87) e h = subst NotOutside (err_same (SignatureVerificationError rule.Key) e h) tt
by_curve (Err d) e h = subst NotOutside (err_same (SignatureVerificationError rule.Key) e h) tt

by_validity : (a b : Bool) (e : Error)
    → ◌≡◌ {A = Judged ⊤} (cond a (cond b (Ok tt) (Err (CertificateValidationError fault.Expired))) (Err (CertificateValidationError fault.NotYetValid))) (Err e) → NotOutside e
by_validity true true e h = cc
by_validity true false e h = subst NotOutside (err_same (CertificateValidationError fault.Expired) e h) tt
by_validity false b e h = subst NotOutside (err_same (CertificateValidationError fault.NotYetValid) e h) tt

by_octets : (o : Option (ℕ × List ℕ)) (e : Error) → octets_of o ≡ Err e → NotOutside e
by_octets None e h = subst NotOutside (err_same NoTstInfo e h) tt
by_octets (Some content) e h = cc

by_granted : (response : TimeStampResp) (e : Error) → token_of response ≡ Err e → NotOutside e
by_granted response e h = by (is_granted response.status.status) h
  where
    by : (b : Bool) → ◌≡◌ {A = Judged (ℕ × List ℕ)} (cond b (ok_or_parse parse.NoToken response.time_stamp_token) (Err (Parse parse.Status))) (Err e) → NotOutside e
    by true k = by_known parse.NoToken response.time_stamp_token e k
    by false k = subst NotOutside (err_same (Parse parse.Status) e k) tt

by_response : (r : Outcome TimeStampResp) (bytes : List ℕ) (e : Error) → content_info_by r bytes ≡ Err e → NotOutside e
by_response (Ok response) bytes e h =
    refused_at (token_of response) _ e h (by_granted response e) (λ token p k. by_parse parse.ContentInfo (value_in content_info_type.grammar token) e k)
by_response (Err d) bytes e h = by_parse parse.ContentInfo (read_all content_info_type.grammar bytes) e h

by_signed_data : (content : ContentInfo) (e : Error) → signed_data_of content ≡ Err e → NotOutside e
unfolding signed_data_of
by_signed_data content e h = by (bytes_eq content.content_type signed_data_oid) h
  where
    by : (b : Bool) → ◌≡◌ {A = Judged SignedData} (cond b (or_parse parse.SignedData (value_in signed_data_type.grammar content.content)) (Err (Parse parse.SignedData))) (Err e) → NotOutside e
    by true k = by_parse parse.SignedData (value_in signed_data_type.grammar content.content) e k
    by false k = subst NotOutside (err_same (Parse parse.SignedData) e k) tt

by_content : (encapsulated : EncapsulatedContentInfo) (e : Error) → content_of encapsulated ≡ Err e → NotOutside e
unfolding content_of
by_content encapsulated e h = by (bytes_eq encapsulated.econtent_type tst_info_oid) h
  where
    by : (b : Bool) → ◌≡◌ {A = Judged (List ℕ)} (cond b (octets_of encapsulated.econtent) (Err (Parse parse.ContentType))) (Err e) → NotOutside e
    by true k = by_octets encapsulated.econtent e k
    by false k = subst NotOutside (err_same (Parse parse.ContentType) e k) tt

by_said : (signed : SignedData) (e : Error) → content_in signed ≡ Err e → NotOutside e
unfolding content_in said_of tst_info_of
by_said signed e h =
    refused_at (said_of signed) _ e h
    (λ s. refused_at (content_of signed.encap_content_info) _ e s (by_content signed.encap_content_info e) (λ octets p k.
    refused_at (tst_info_of octets) _ e k (by_parse parse.TstInfo (read_all tst_info_type.grammar octets) e) (λ info q l. cc)))
    (λ said p k. cc)

by_token : (token : List ℕ) (e : Error) → token_content_of token ≡ Err e → NotOutside e
unfolding token_content_of content_info_of
by_token token e h =
    refused_at (content_info_of token) _ e h (by_response (read_all time_stamp_resp_type.grammar token) token e) (λ (content : ContentInfo) p k.
    refused_at (signed_data_of content) _ e k (by_signed_data content e) (λ (signed : SignedData) q l. by_said signed e l))

by_told : (content : TokenContent) (signature : List ℕ) (e : Error) → told_of content signature ≡ Err e → NotOutside e
unfolding told_of imprint_judged_of
by_told content signature e h =
    let imprint = content.info.message_imprint in
    refused_at (imprint_judged_of imprint signature) _ e h
    (λ i. refused_at (known parse.ImprintAlgorithm imprint.hash_algorithm.algorithm) _ e i (by_known parse.ImprintAlgorithm (digest_named imprint.hash_algorithm.algorithm) e)
    (λ algorithm p k. by_same imprint.hashed_message (digest_by algorithm signature) e k))
    (λ u p k. by_time (is_since_1970 (time_of content.info.gen_time)) (time_of content.info.gen_time) e k)

pub by_stamp : (token signature : List ℕ) (e : Error) → stamp_of token signature ≡ Err e → NotOutside e
unfolding stamp_of
by_stamp token signature e h =
    refused_at (token_content_of token) _ e h (by_token token e) (λ (content : TokenContent) p k.
    refused_at (told_of content signature) _ e k (by_told content signature e) (λ time q l. cc))

by_named : (signers : List SignerInfo) (leaf : List ℕ) (e : Error) → named_of signers leaf ≡ Err e → NotOutside e
unfolding named_of
by_named signers leaf e h =
    refused_at (first_signer signers) _ e h (by_first signers e) (λ (signer : SignerInfo) p k.
    refused_at (leaf_read (certificate_of leaf)) _ e k (by_rule rule.Certificate (certificate_of leaf) e) (λ (certificate : Certificate) q l.
    refused_at (check rule.SignerIdentifier (is_named signer.sid certificate)) _ e l
    (by_check (SignatureVerificationError rule.SignerIdentifier) tt (is_named signer.sid certificate) e) (λ u r m. cc)))

by_key : (spki : List ℕ) (digest : HashAlgorithm) (e : Error) → key_of spki digest ≡ Err e → NotOutside e
unfolding key_of
by_key spki digest e h =
    refused_at (curve_read (algorithm_of_spki spki)) _ e h (by_curve (algorithm_of_spki spki) e) (λ algorithm p k.
    refused_at (or_rule rule.Scheme (resolved_of algorithm digest)) _ e k (by_rule rule.Scheme (resolved_of algorithm digest) e)
    (λ scheme q l. by_rule rule.Key (spki_key_under scheme spki) e l))

by_signed : (accepts : Judge) (octets : List ℕ) (signer : SignerInfo) (spki : List ℕ) (e : Error) → signed_of accepts octets signer spki ≡ Err e → NotOutside e
unfolding signed_of digest_told_of
by_signed accepts octets signer spki e h =
    refused_at (some_or_rule rule.SignedAttributes signer.signed_attrs) _ e h (by_some rule.SignedAttributes signer.signed_attrs e) (λ (attributes : List Attribute) p k.
    refused_at (digest_told_of attributes) _ e k (by_digest (only_value (values_in (only_from message_digest_oid None attributes))) e) (λ told q l.
    refused_at (known parse.SignerAlgorithm signer.digest_alg.oid) _ e l (by_known parse.SignerAlgorithm (digest_named signer.digest_alg.oid) e) (λ digest r m.
    refused_at (same_digest told (digest_by digest octets)) _ e m (by_same told (digest_by digest octets) e) (λ u s n.
    refused_at (key_of spki digest) _ e n (by_key spki digest e)
    (λ key v o. by_check (SignatureVerificationError rule.Signature) tt (is_signed accepts key attributes signer.signature) e o)))))

pub outside_alone : (window : Option TimeRange) (time other : Timestamp) → within_window window time ≡ Err (TimestampOutsideValidity other) → (is_used_at time window ≡ false) × (time ≡ other)
outside_alone window time other h = by (is_used_at time window) refl h
  where
    by : (b : Bool) → is_used_at time window ≡ b → ◌≡◌ {A = Judged ⊤} (cond b (Ok tt) (Err (TimestampOutsideValidity time))) (Err (TimestampOutsideValidity other))
        → (is_used_at time window ≡ false) × (time ≡ other)
    by true is k = cc
    by false is k = (is, let same : TimestampOutsideValidity time ≡ TimestampOutsideValidity other = err_same (TimestampOutsideValidity time) (TimestampOutsideValidity other) k in cc)

-- ---- both ways

module _ (accepts : Judge) (token signature : List ℕ) (authority : TsaAuthority) where
  abbrev after_signed : Certificate → Timestamp → ⊤ → Judged ⊤
  after_signed leaf time u = vouched_of accepts authority leaf time

  abbrev after_named : TokenContent → Timestamp → SignerInfo × Certificate → Judged ⊤
  after_named content time named = signed_of accepts content.octets named.0 named.1.signed.middle.spki >>= after_signed named.1 time

  abbrev after_stamp : Stamp → Judged Timestamp
  after_stamp stamp = under_of accepts stamp authority >>= λ _. Ok stamp.time

  -- a token that is the authority's is judged by the window
  is_of_window : (time : Timestamp) → IsOf accepts token signature authority time
      → stamped_of accepts token signature authority ≡ (within_window authority.valid_for time >>= λ _. Ok time)
  unfolding stamped_of stamp_of under_of
  is_of_window time i =
      ap (λ r. (r >>= λ content. told_of content signature >>= λ time. Ok (stamp_at content time)) >>= after_stamp) i.read
      ∙ ap (λ r. (r >>= λ time. Ok (stamp_at i.content time)) >>= after_stamp) (tells_back i.content signature time i.tells)
      ∙ ap (λ r. (r >>= after_named i.content time) >>= λ _. Ok time)
      (named_passes i.content.signers authority.leaf (i.signer, i.leaf) (record { others = i.others; first = i.first; leaf_is = i.leaf_is; names = i.named }))
      ∙ ap (λ r. (r >>= after_signed i.leaf time) >>= λ _. Ok time) (signed_passes accepts i.content.octets i.signer i.leaf i.signs)
      ∙ ap (λ r. r >>= λ _. Ok time) (to_window accepts authority i.leaf time i.certifies)

  passed : (time : Timestamp) (x : ⊤) → within_window authority.valid_for time ≡ Ok x → is_used_at time authority.valid_for ≡ true
  passed time x h = checked (TimestampOutsideValidity time) (is_used_at time authority.valid_for) x h

  means : (time : Timestamp) → stamped_of accepts token signature authority ≡ Ok time → Stamped accepts token signature authority time
  unfolding stamped_of stamp_of under_of
  means time h =
      let a = step_ok (stamp_of token signature) after_stamp time h in
      let b = step_ok (token_content_of token) (λ content. told_of content signature >>= λ time. Ok (stamp_at content time)) a.0 a.1 in
      let c = step_ok (told_of b.0 signature) (λ time. Ok (stamp_at b.0 time)) a.0 b.2 in
      let content = b.0 in
      let k = subst (λ (stamp : Stamp). after_stamp stamp ≡ Ok time) (sym (ok_same (stamp_at content c.0) a.0 c.2)) a.2 in
      let d = step_ok (under_of accepts (stamp_at content c.0) authority) (λ _. Ok c.0) time k in
      let n = step_ok (named_of content.signers authority.leaf) (after_named content c.0) d.0 d.1 in
      let s = step_ok (signed_of accepts content.octets n.0.0 n.0.1.signed.middle.spki) (after_signed n.0.1 c.0) d.0 n.2 in
      let v = certified accepts authority n.0.1 c.0 d.0 s.2 in
      let named = named_means content.signers authority.leaf n.0 n.1 in
      subst (Stamped accepts token signature authority) (ok_same c.0 time d.2) (record {
        is = record {
          content = content;
          read = b.1;
          tells = tells content signature c.0 c.1;
          signer = n.0.0;
          others = named.others;
          first = named.first;
          leaf = n.0.1;
          leaf_is = named.leaf_is;
          named = named.names;
          signs = signed_means accepts content.octets n.0.0 n.0.1 s.0 s.1;
          certifies = v.0;
        };
        window = v.1;
      })

  passes : (time : Timestamp) → Stamped accepts token signature authority time → stamped_of accepts token signature authority ≡ Ok time
  passes time s =
      is_of_window time s.is ∙ ap (λ r. r >>= λ _. Ok time) (checks (TimestampOutsideValidity time) (is_used_at time authority.valid_for) s.window)

  outside_back : (time : Timestamp) → IsOutside accepts token signature authority time → stamped_of accepts token signature authority ≡ Err (TimestampOutsideValidity time)
  outside_back time o =
      is_of_window time o.is ∙ ap (λ b. cond b (Ok tt) (Err (TimestampOutsideValidity time)) >>= λ _. Ok time) o.window

  pub outside_means : (time : Timestamp) → stamped_of accepts token signature authority ≡ Err (TimestampOutsideValidity time) → IsOutside accepts token signature authority time
  unfolding stamped_of stamp_of under_of vouched_of
  outside_means time h =
      let e = TimestampOutsideValidity time in
      refused_at (stamp_of token signature) after_stamp e h (λ p. absurd (by_stamp token signature e p)) (λ (stamp : Stamp) p k.
      let b = step_ok (token_content_of token) (λ content. told_of content signature >>= λ time. Ok (stamp_at content time)) stamp p in
      let c = step_ok (told_of b.0 signature) (λ time. Ok (stamp_at b.0 time)) stamp b.2 in
      let content = b.0 in
      let l = subst (λ (stamp : Stamp). after_stamp stamp ≡ Err e) (sym (ok_same (stamp_at content c.0) stamp c.2)) k in
      refused_at (under_of accepts (stamp_at content c.0) authority) (λ _. Ok c.0) e l
      (λ u. refused_at (named_of content.signers authority.leaf) (after_named content c.0) e u (λ q. absurd (by_named content.signers authority.leaf e q)) (λ (n : SignerInfo × Certificate) q m.
      refused_at (signed_of accepts content.octets n.0 n.1.signed.middle.spki) (after_signed n.1 c.0) e m (λ s. absurd (by_signed accepts content.octets n.0 n.1.signed.middle.spki e s)) (λ x s w.
      refused_at (or_fault fault.Root (may_anchor authority.root)) (after_root accepts authority n.1 c.0) e w (λ r. absurd (by_fault fault.Root (may_anchor authority.root) e r)) (λ y r z.
      refused_at (or_fault fault.Path (path_of (setting_of accepts authority c.0))) (after_path accepts authority n.1 c.0) e z (λ f. absurd (by_fault fault.Path (path_of (setting_of accepts authority c.0)) e f)) (λ (path : FoundPath) f g.
      refused_at (within_validity (window_of n.1) c.0) (after_validity accepts authority n.1 c.0) e g (λ v. absurd (by_validity (has_started (window_of n.1) c.0) (ends_by (window_of n.1).end c.0) e v)) (λ v i j.
      let named = named_means content.signers authority.leaf n q in
      let only = outside_alone authority.valid_for c.0 time j in
      subst (IsOutside accepts token signature authority) only.1 (record {
        is = record {
          content = content;
          read = b.1;
          tells = tells content signature c.0 c.1;
          signer = n.0;
          others = named.others;
          first = named.first;
          leaf = n.1;
          leaf_is = named.leaf_is;
          named = named.names;
          signs = signed_means accepts content.octets n.0 n.1 x s;
          certifies = record {
            root = fault_is fault.Root (may_anchor authority.root) y r;
            path = path;
            found = (path_exactly (setting_of accepts authority c.0) path).0 (fault_is fault.Path (path_of (setting_of accepts authority c.0)) path f);
            validity = validity_means (window_of n.1) c.0 v i;
          };
        };
        window = only.0;
      })))))))
      (λ u q m. cc))

pub stamped_exactly : StampedExactly
stamped_exactly accepts token signature authority time = (means accepts token signature authority time, passes accepts token signature authority time)

pub outside_exactly : OutsideExactly
outside_exactly accepts token signature authority time = (outside_means accepts token signature authority time, outside_back accepts token signature authority time)
