-- Each refusal of a token comes only where its cause holds.
use Rattle.std.proofs.Common.{◌≡◌, ℕ, List, [], ◌∷◌, Bool, true, false, cond, Option, Some, None, Result, Ok, Err, refl, sym, ap, ◌∙◌, subst, inl, inr}
use Rattle.std.specs.Prelude.{◌⊎◌, bytes_eq}
use Rattle.foundation.specs.Steps.{◌>>=◌}
use Rattle.foundation.specs.Results.{step_ok, ok_same, err_same, refused_at}
use Rattle.der_grammar.specs.Grammar.{read_all}
use Rattle.der_grammar.specs.Octets.{octet_string_type}
use Rattle.der_grammar.specs.Outcome.{Outcome}
use Rattle.x509_core.specs.declared.attribute.Attribute.{Attribute}
use Rattle.x509_views.specs.Certificates.{Certificate, certificate_of}
use Rattle.cms_parts.specs.declared.content_info.ContentInfo.{ContentInfo}
use Rattle.cms_parts.specs.declared.signed_data.SignedData.{SignedData}
use Rattle.cms_parts.specs.declared.signed_data.SignerInfo.{SignerInfo}
use Rattle.cms_parts.specs.ContentInfo.{content_info_type}
use Rattle.cms_parts.specs.Identifiers.{signed_data_oid, message_digest_oid}
use Rattle.cms_parts.specs.SignedData.{signed_data_type}
use Rattle.sigstore_types_parts.specs.declared.hash_algorithm.HashAlgorithm.{HashAlgorithm}
use Rattle.sigstore_types_parts.specs.TimeRange.{has_started, ends_by}
use Rattle.sigstore_types.specs.declared.authority.TsaAuthority.{TsaAuthority}
use Rattle.sigstore_keys.specs.declared.error.Error.{Error as CryptoError}
use Rattle.sigstore_keys.specs.declared.key.VerificationKey.{VerificationKey}
use Rattle.sigstore_keys.specs.declared.scheme.KeyAlgorithm.{KeyAlgorithm}
use Rattle.sigstore_keys.specs.declared.scheme.KeyAlgorithm.TheVariants as sort
use Rattle.sigstore_keys.specs.Digest.{digest_by}
use Rattle.sigstore_keys.specs.Good.{Judge}
use Rattle.sigstore_keys.specs.Key.{spki_key_under}
use Rattle.sigstore_keys.specs.KeyAlgorithm.{algorithm_of_spki}
use Rattle.sigstore_keys.specs.Keyring.{is_used_at}
use Rattle.sigstore_keys.specs.Scheme.{resolved_of}
use Rattle.path_core.specs.declared.route.FoundPath.{FoundPath}
use Rattle.path_core.specs.Anchors.{may_anchor, is_since_1970}
use Rattle.path_core.specs.Path.{path_of}
use Rattle.path_core.specs.Traits.{window_of}
use Rattle.sigstore_tsa_parts.specs.declared.content.TokenContent.{TokenContent}
use Rattle.sigstore_tsa_parts.specs.declared.error.CertificateFault.{CertificateFault}
use Rattle.sigstore_tsa_parts.specs.declared.error.CertificateFault.TheVariants as fault
use Rattle.sigstore_tsa_parts.specs.declared.error.Error.{Error}
use Rattle.sigstore_tsa_parts.specs.declared.error.Error.TheVariants.{SignatureVerificationError, HashMismatch, NoTstInfo, CertificateValidationError, Parse, TimestampOutsideValidity}
use Rattle.sigstore_tsa_parts.specs.declared.error.ParseRule.{ParseRule}
use Rattle.sigstore_tsa_parts.specs.declared.error.ParseRule.TheVariants as parse
use Rattle.sigstore_tsa_parts.specs.declared.error.SignatureRule.{SignatureRule}
use Rattle.sigstore_tsa_parts.specs.declared.error.SignatureRule.TheVariants as rule
use Rattle.sigstore_tsa_parts.specs.declared.response.TimeStampResp.{TimeStampResp}
use Rattle.sigstore_tsa_parts.specs.Content.{value_in, is_granted, token_of, content_info_by, content_info_of, signed_data_of, octets_of, content_of, tst_info_of, said_of, content_in, token_content_of}
use Rattle.sigstore_tsa_parts.specs.Error.{Judged, or_parse, ok_or_parse}
use Rattle.sigstore_tsa_parts.specs.Identifiers.{digest_named, tst_info_oid}
use Rattle.sigstore_tsa_parts.specs.Types.{time_stamp_resp_type, tst_info_type}
use Rattle.sigstore_tsa.specs.declared.stamp.Stamp.{Stamp}
use Rattle.sigstore_tsa.specs.Cause.{Refuses, IsResponse, bare, held, other_type, unread, Holds, HasSigner, HasDigest, of_imprint, of_content, StampCause, RefusedStamps}
use Rattle.sigstore_tsa.specs.Signer.{or_rule, some_or_rule, check, first_signer, leaf_read, is_named, named_of, only_from, only_value, digest_in, values_in, digest_told_of, curve_read, key_of, is_signed, signed_of}
use Rattle.sigstore_tsa.specs.Stamp.{known, same_digest, imprint_judged_of, time_of, told_of, stamp_at, stamp_of}
use Rattle.sigstore_tsa.specs.Stamped.{under_of, stamped_of}
use Rattle.sigstore_tsa.specs.Vouched.{or_fault, setting_of, within_validity, vouched_of}
use Rattle.sigstore_tsa.proofs.StampedLaw.{known_is, some_is, rule_is, tells, first_is, outside_means}

-- ---- a step refuses, and then the refusal is its own

at_parse : {A : Type 0} (P : Error → Type 0) (which : ParseRule) (r : Outcome A) (e : Error) → or_parse which r ≡ Err e → (Refuses r → P (Parse which)) → P e
at_parse P which (Ok x) e h k = cc
at_parse P which (Err d) e h k = subst P (err_same (Parse which) e h) (k (d, refl))

at_known : {A : Type 0} (P : Error → Type 0) (which : ParseRule) (o : Option A) (e : Error) → ok_or_parse which o ≡ Err e → (o ≡ None → P (Parse which)) → P e
at_known P which (Some x) e h k = cc
at_known P which None e h k = subst P (err_same (Parse which) e h) (k refl)

at_rule : {A E : Type 0} (P : Error → Type 0) (which : SignatureRule) (r : Result A E) (e : Error) → or_rule which r ≡ Err e → (Refuses r → P (SignatureVerificationError which)) → P e
at_rule P which (Ok x) e h k = cc
at_rule P which (Err d) e h k = subst P (err_same (SignatureVerificationError which) e h) (k (d, refl))

at_some : {A : Type 0} (P : Error → Type 0) (which : SignatureRule) (o : Option A) (e : Error) → some_or_rule which o ≡ Err e → (o ≡ None → P (SignatureVerificationError which)) → P e
at_some P which (Some x) e h k = cc
at_some P which None e h k = subst P (err_same (SignatureVerificationError which) e h) (k refl)

at_fault : {A E : Type 0} (P : Error → Type 0) (which : CertificateFault) (r : Result A E) (e : Error) → or_fault which r ≡ Err e → (Refuses r → P (CertificateValidationError which)) → P e
at_fault P which (Ok x) e h k = cc
at_fault P which (Err d) e h k = subst P (err_same (CertificateValidationError which) e h) (k (d, refl))

at_check : {A : Type 0} (P : Error → Type 0) (d : Error) (b : Bool) (x : A) (e : Error) → ◌≡◌ {A = Judged A} (cond b (Ok x) (Err d)) (Err e) → (b ≡ false → P d) → P e
at_check P d true x e h k = cc
at_check P d false x e h k = subst P (err_same d e h) (k refl)

-- one of two steps, by a test
at_else : {A : Type 0} (P : Error → Type 0) (d : Error) (b : Bool) (r : Judged A) (e : Error) → ◌≡◌ {A = Judged A} (cond b r (Err d)) (Err e) → (b ≡ false → P d) → (r ≡ Err e → P e) → P e
at_else P d true r e h k l = l h
at_else P d false r e h k l = subst P (err_same d e h) (k refl)

-- ---- what a token holds

token_there : (b : Bool) (o : Option (ℕ × List ℕ)) (value : ℕ × List ℕ)
    → ◌≡◌ {A = Judged (ℕ × List ℕ)} (cond b (ok_or_parse parse.NoToken o) (Err (Parse parse.Status))) (Ok value) → o ≡ Some value
token_there true (Some x) value h = ap Some (ok_same x value h)
token_there true None value h = cc
token_there false o value h = cc

content_there : (b : Bool) (o : Option (ℕ × List ℕ)) (octets : List ℕ)
    → ◌≡◌ {A = Judged (List ℕ)} (cond b (octets_of o) (Err (Parse parse.ContentType))) (Ok octets) → (value : ℕ × List ℕ) × (o ≡ Some value) × (octets ≡ value.1)
content_there true (Some x) octets h = (x, refl, sym (ok_same x.1 octets h))
content_there true None octets h = cc
content_there false o octets h = cc

-- ---- refusals that have one name

digest_rule : (o : Option (ℕ × List ℕ)) (e : Error) → digest_in o ≡ Err e → SignatureVerificationError rule.MessageDigest ≡ e
digest_rule None e h = err_same (SignatureVerificationError rule.MessageDigest) e h
digest_rule (Some value) e h = at_rule (λ e. SignatureVerificationError rule.MessageDigest ≡ e) rule.MessageDigest (value_in octet_string_type.grammar value) e h (λ r. refl)

abbrev KeyOrScheme : Error → Type 0
KeyOrScheme e = (SignatureVerificationError rule.Key ≡ e) ⊎ (SignatureVerificationError rule.Scheme ≡ e)

curve_rule : (r : Result KeyAlgorithm CryptoError) (e : Error) → curve_read r ≡ Err e → KeyOrScheme e
curve_rule (Ok sort.EcdsaP256) e h = cc
curve_rule (Ok sort.EcdsaP384) e h = cc
curve_rule (Ok sort.Ed25519) e h = inl (err_same (SignatureVerificationError rule.Key) e h)
curve_rule (Ok sort.Rsa) e h = inl (err_same (SignatureVerificationError rule.Key) e h)
curve_rule (Ok sort.MlDsa44) e h = inl (err_same (SignatureVerificationError rule.Key) e h)
curve_rule (Ok sort.MlDsa65) e h = inl (err_same (SignatureVerificationError rule.Key) e h)
curve_rule (Ok sort.MlDsa87) e h = inl (err_same (SignatureVerificationError rule.Key) e h)
curve_rule (Err d) e h = inl (err_same (SignatureVerificationError rule.Key) e h)

key_rule : (spki : List ℕ) (digest : HashAlgorithm) (e : Error) → key_of spki digest ≡ Err e → KeyOrScheme e
unfolding key_of
key_rule spki digest e h =
    refused_at (curve_read (algorithm_of_spki spki)) _ e h (curve_rule (algorithm_of_spki spki) e) (λ algorithm p k.
    refused_at (or_rule rule.Scheme (resolved_of algorithm digest)) _ e k (λ q. at_rule KeyOrScheme rule.Scheme (resolved_of algorithm digest) e q (λ r. inr refl))
    (λ scheme q l. at_rule KeyOrScheme rule.Key (spki_key_under scheme spki) e l (λ r. inl refl)))

module _ (accepts : Judge) (token signature : List ℕ) (authority : TsaAuthority) where
  abbrev P : Error → Type 0
  P e = StampCause accepts token signature authority e

  -- ---- the token itself

  granted_cause : (response : TimeStampResp) → IsResponse token response → (e : Error) → token_of response ≡ Err e → P e
  granted_cause response is e h =
      at_else P (Parse parse.Status) (is_granted response.status.status) (ok_or_parse parse.NoToken response.time_stamp_token) e h
      (λ b. record { response = response; is = is; status = b })
      (λ k. at_known P parse.NoToken response.time_stamp_token e k (λ none. record { response = response; is = is; none = none }))

  info_cause : (e : Error) → content_info_of token ≡ Err e → P e
  unfolding content_info_of
  info_cause e h = by (read_all time_stamp_resp_type.grammar token) refl h
    where
      by : (r : Outcome TimeStampResp) → read_all time_stamp_resp_type.grammar token ≡ r → content_info_by r token ≡ Err e → P e
      by (Ok response) is k =
          refused_at (token_of response) _ e k (granted_cause response is e)
          (λ value q l. at_parse P parse.ContentInfo (value_in content_info_type.grammar value) e l
          (λ r. held response value is (token_there (is_granted response.status.status) response.time_stamp_token value q) r))
      by (Err d) is k = at_parse P parse.ContentInfo (read_all content_info_type.grammar token) e k (λ r. bare (d, is) r)

  data_cause : (content : ContentInfo) → content_info_of token ≡ Ok content → (e : Error) → signed_data_of content ≡ Err e → P e
  unfolding signed_data_of
  data_cause content is e h =
      at_else P (Parse parse.SignedData) (bytes_eq content.content_type signed_data_oid) (or_parse parse.SignedData (value_in signed_data_type.grammar content.content)) e h
      (λ b. other_type content is b)
      (λ k. at_parse P parse.SignedData (value_in signed_data_type.grammar content.content) e k (λ r. unread content is r))

  nothing_cause : (holds : Holds token) (o : Option (ℕ × List ℕ)) → holds.signed.encap_content_info.econtent ≡ o → (e : Error) → octets_of o ≡ Err e → P e
  nothing_cause holds None is e h = subst P (err_same NoTstInfo e h) (record { holds = holds; none = is })
  nothing_cause holds (Some value) is e h = cc

  said_cause : (holds : Holds token) (e : Error) → said_of holds.signed ≡ Err e → P e
  unfolding said_of content_of tst_info_of
  said_cause holds e h =
      let encap = holds.signed.encap_content_info in
      refused_at (content_of encap) _ e h
      (λ p. at_else P (Parse parse.ContentType) (bytes_eq encap.econtent_type tst_info_oid) (octets_of encap.econtent) e p
      (λ b. record { holds = holds; other = b }) (λ k. nothing_cause holds encap.econtent refl e k))
      (λ octets p k. refused_at (tst_info_of octets) _ e k
      (λ q. at_parse P parse.TstInfo (read_all tst_info_type.grammar octets) e q (λ r.
      let there = content_there (bytes_eq encap.econtent_type tst_info_oid) encap.econtent octets p in
      record { holds = holds; value = there.0; there = there.1; unread = subst (λ (octets : List ℕ). Refuses (read_all tst_info_type.grammar octets)) there.2 r }))
      (λ info q l. cc))

  token_cause : (e : Error) → token_content_of token ≡ Err e → P e
  unfolding token_content_of content_in
  token_cause e h =
      refused_at (content_info_of token) _ e h (info_cause e) (λ (content : ContentInfo) p k.
      refused_at (signed_data_of content) _ e k (data_cause content p e) (λ (signed : SignedData) q l.
      refused_at (said_of signed) _ e l (said_cause (record { content = content; is = p; signed = signed; held = q }) e) (λ said r m. cc)))

  -- ---- what it says

  imprint_cause : (told : TokenContent) → token_content_of token ≡ Ok told → (e : Error) → imprint_judged_of told.info.message_imprint signature ≡ Err e → P e
  unfolding imprint_judged_of
  imprint_cause told read e h =
      let named = told.info.message_imprint.hash_algorithm.algorithm in
      let hashed = told.info.message_imprint.hashed_message in
      refused_at (known parse.ImprintAlgorithm named) _ e h
      (λ q. at_known P parse.ImprintAlgorithm (digest_named named) e q (λ none. record { content = told; read = read; none = none }))
      (λ (algorithm : HashAlgorithm) q l. at_check P (HashMismatch hashed (digest_by algorithm signature)) (bytes_eq hashed (digest_by algorithm signature)) tt e l
      (λ b. of_imprint (record { content = told; read = read; algorithm = algorithm; named = known_is parse.ImprintAlgorithm (digest_named named) algorithm q; told_is = refl; actual_is = refl }) b))

  told_cause : (told : TokenContent) → token_content_of token ≡ Ok told → (e : Error) → told_of told signature ≡ Err e → P e
  unfolding told_of
  told_cause told read e h =
      refused_at (imprint_judged_of told.info.message_imprint signature) _ e h (imprint_cause told read e) (λ u p k.
      at_check P (Parse parse.Time) (is_since_1970 (time_of told.info.gen_time)) (time_of told.info.gen_time) e k (λ b. record { content = told; read = read; before = b }))

  -- ---- who signed it

  first_cause : (told : TokenContent) → token_content_of token ≡ Ok told → (signers : List SignerInfo) → told.signers ≡ signers → (e : Error) → first_signer signers ≡ Err e → P e
  first_cause told read [] is e h = subst P (err_same (SignatureVerificationError rule.NoSigner) e h) (record { content = told; read = read; none = is })
  first_cause told read (signer ∷ others) is e h = cc

  named_cause : (told : TokenContent) → token_content_of token ≡ Ok told → (e : Error) → named_of told.signers authority.leaf ≡ Err e → P e
  unfolding named_of
  named_cause told read e h =
      refused_at (first_signer told.signers) _ e h (first_cause told read told.signers refl e) (λ (signer : SignerInfo) p k.
      refused_at (leaf_read (certificate_of authority.leaf)) _ e k (λ q. at_rule P rule.Certificate (certificate_of authority.leaf) e q (λ r. r)) (λ (leaf : Certificate) q l.
      refused_at (check rule.SignerIdentifier (is_named signer.sid leaf)) _ e l
      (λ r. at_check P (SignatureVerificationError rule.SignerIdentifier) (is_named signer.sid leaf) tt e r (λ b.
      let first = first_is told.signers signer p in
      record {
        has = record { content = told; read = read; signer = signer; others = first.0; first = first.1; leaf = leaf; leaf_is = rule_is rule.Certificate (certificate_of authority.leaf) leaf q };
        other = b;
      }))
      (λ u r m. cc)))

  key_cause : (has : HasDigest token authority) (e : Error) → key_of has.signs.has.leaf.signed.middle.spki has.digest ≡ Err e → P e
  key_cause has e h = elim (key_rule has.signs.has.leaf.signed.middle.spki has.digest e h) [
    | inl is ↦ subst P is (record { has = has; none = h ∙ ap Err (sym is) })
    | inr is ↦ subst P is (record { has = has; none = h ∙ ap Err (sym is) })
  ]

  digest_cause : (has : HasDigest token authority) (told : List ℕ) → digest_told_of has.signs.attributes ≡ Ok told → (e : Error)
      → same_digest told (digest_by has.digest has.signs.has.content.octets) ≡ Err e → P e
  digest_cause has told is e h =
      let actual = digest_by has.digest has.signs.has.content.octets in
      at_check P (HashMismatch told actual) (bytes_eq told actual) tt e h (λ b. of_content (record { has = has; told_is = is; actual_is = refl }) b)

  signed_cause : (has : HasSigner token authority) (e : Error) → signed_of accepts has.content.octets has.signer has.leaf.signed.middle.spki ≡ Err e → P e
  unfolding signed_of digest_told_of
  signed_cause has e h =
      let signer = has.signer in
      refused_at (some_or_rule rule.SignedAttributes signer.signed_attrs) _ e h
      (λ p. at_some P rule.SignedAttributes signer.signed_attrs e p (λ none. record { has = has; none = none })) (λ (attributes : List Attribute) p k.
      let are = some_is rule.SignedAttributes signer.signed_attrs attributes p in
      refused_at (digest_told_of attributes) _ e k
      (λ q. subst P (digest_rule (only_value (values_in (only_from message_digest_oid None attributes))) e q) (record { signs = record { has = has; attributes = attributes; are = are }; none = (e, q) })) (λ told q l.
      refused_at (known parse.SignerAlgorithm signer.digest_alg.oid) _ e l
      (λ r. at_known P parse.SignerAlgorithm (digest_named signer.digest_alg.oid) e r (λ none. record { has = has; none = none })) (λ (digest : HashAlgorithm) r m.
      let knows : HasDigest token authority = record {
        signs = record { has = has; attributes = attributes; are = are };
        digest = digest;
        named = known_is parse.SignerAlgorithm (digest_named signer.digest_alg.oid) digest r;
      } in
      refused_at (same_digest told (digest_by digest has.content.octets)) _ e m (digest_cause knows told q e) (λ u s n.
      refused_at (key_of has.leaf.signed.middle.spki digest) _ e n (key_cause knows e) (λ (key : VerificationKey) v o.
      at_check P (SignatureVerificationError rule.Signature) (is_signed accepts key attributes signer.signature) tt e o (λ b. record { has = knows; key = key; key_is = v; bad = b }))))))

  -- ---- who vouches for it

  validity_cause : (has : HasSigner token authority) (e : Error) → within_validity (window_of has.leaf) (time_of has.content.info.gen_time) ≡ Err e → P e
  validity_cause has e h =
      let time = time_of has.content.info.gen_time in
      let window = window_of has.leaf in
      at_else P (CertificateValidationError fault.NotYetValid) (has_started window time) (cond (ends_by window.end time) (Ok tt) (Err (CertificateValidationError fault.Expired))) e h
      (λ b. record { has = has; early = b })
      (λ k. at_check P (CertificateValidationError fault.Expired) (ends_by window.end time) tt e k (λ b. record { has = has; late = b }))

  vouched_cause : (has : HasSigner token authority) (e : Error) → stamped_of accepts token signature authority ≡ Err e
      → vouched_of accepts authority has.leaf (time_of has.content.info.gen_time) ≡ Err e → P e
  unfolding vouched_of
  vouched_cause has e all h =
      let time = time_of has.content.info.gen_time in
      refused_at (or_fault fault.Root (may_anchor authority.root)) _ e h (λ p. at_fault P fault.Root (may_anchor authority.root) e p (λ r. r)) (λ x p k.
      refused_at (or_fault fault.Path (path_of (setting_of accepts authority time))) _ e k
      (λ q. at_fault P fault.Path (path_of (setting_of accepts authority time)) e q (λ r. record { has = has; none = r })) (λ (path : FoundPath) q l.
      refused_at (within_validity (window_of has.leaf) time) _ e l (validity_cause has e) (λ u r m.
      let is : TimestampOutsideValidity time ≡ e =
      at_check (λ e. TimestampOutsideValidity time ≡ e) (TimestampOutsideValidity time) (is_used_at time authority.valid_for) tt e m (λ b. refl) in
      subst P is (outside_means accepts token signature authority time (all ∙ ap Err (sym is))))))

  -- ---- the whole

  under_cause : (told : TokenContent) → token_content_of token ≡ Ok told → (e : Error) → stamped_of accepts token signature authority ≡ Err e
      → under_of accepts (stamp_at told (time_of told.info.gen_time)) authority ≡ Err e → P e
  unfolding under_of named_of
  under_cause told read e all h =
      refused_at (named_of told.signers authority.leaf) _ e h (named_cause told read e) (λ (named : SignerInfo × Certificate) p k.
      let a = step_ok (first_signer told.signers) (λ signer. leaf_read (certificate_of authority.leaf) >>= λ leaf. check rule.SignerIdentifier (is_named signer.sid leaf) >>= λ _. Ok (signer, leaf)) named p in
      let b = step_ok (leaf_read (certificate_of authority.leaf)) (λ leaf. check rule.SignerIdentifier (is_named (a.0).sid leaf) >>= λ _. Ok (a.0, leaf)) named a.2 in
      let c = step_ok (check rule.SignerIdentifier (is_named (a.0).sid b.0)) (λ _. Ok (a.0, b.0)) named b.2 in
      let first = first_is told.signers a.0 a.1 in
      let has : HasSigner token authority = record {
        content = told;
        read = read;
        signer = a.0;
        others = first.0;
        first = first.1;
        leaf = b.0;
        leaf_is = rule_is rule.Certificate (certificate_of authority.leaf) b.0 b.1;
      } in
      let l = subst (λ (named : SignerInfo × Certificate).
      (signed_of accepts told.octets named.0 named.1.signed.middle.spki >>= λ _. vouched_of accepts authority named.1 (time_of told.info.gen_time)) ≡ Err e) (sym (ok_same (a.0, b.0) named c.2)) k in
      refused_at (signed_of accepts told.octets a.0 b.0.signed.middle.spki) (λ _. vouched_of accepts authority b.0 (time_of told.info.gen_time)) e l (signed_cause has e) (λ u q m. vouched_cause has e all m))

  cause : (e : Error) → stamped_of accepts token signature authority ≡ Err e → P e
  unfolding stamped_of stamp_of
  cause e h =
      refused_at (stamp_of token signature) _ e h
      (λ p. refused_at (token_content_of token) _ e p (token_cause e) (λ (told : TokenContent) q k.
      refused_at (told_of told signature) _ e k (told_cause told q e) (λ time r l. cc)))
      (λ (stamp : Stamp) p k.
      let b = step_ok (token_content_of token) (λ content. told_of content signature >>= λ time. Ok (stamp_at content time)) stamp p in
      let c = step_ok (told_of b.0 signature) (λ time. Ok (stamp_at b.0 time)) stamp b.2 in
      let is : stamp_at b.0 (time_of (b.0).info.gen_time) ≡ stamp =
      ap (stamp_at b.0) (sym (tells b.0 signature c.0 c.1).time_is) ∙ ok_same (stamp_at b.0 c.0) stamp c.2 in
      refused_at (under_of accepts stamp authority) _ e k
      (λ q. under_cause b.0 b.1 e h (subst (λ (stamp : Stamp). under_of accepts stamp authority ≡ Err e) (sym is) q))
      (λ u q m. cc))

pub refusals_have_causes : RefusedStamps
refusals_have_causes accepts token signature authority e h = cause accepts token signature authority e h
