-- Each refusal of a certificate has its cause.
use Rattle.std.proofs.Common.{◌≡◌, ◌≢◌, ◌≤◌, ◌<◌, ◌⊎◌, inl, inr, ℕ, suc, List, [], ◌∷◌, length, Bool, true, false, nat_lt, if◌then◌else◌, is_some, Option, Some, None, Result, Ok, Err, refl, sym, ap, subst, ◌∙◌, arith}
use Rattle.std.proofs.lemmas.Bool.{ltb-false, leb-false}
use Rattle.std.specs.List.{list_any}
use Rattle.std.specs.Prelude.{⊤, Contains, IsTrue}
use Rattle.sha2.specs.Sha256.{sha256}
use Rattle.foundation.specs.Steps.{◌>>=◌}
use Rattle.foundation.specs.Results.{err_same, refused_at, no_both}
use Rattle.jiff_core.specs.declared.timestamp.Timestamp.{Timestamp}
use Rattle.spki_core.specs.Reading.{Reading}
use Rattle.x509_views.specs.Certificates.{Certificate, certificate_of}
use Rattle.x509_views.specs.Precertificates.{sct_oid, precert_of}
use Rattle.x509_views.specs.Scts.{Parts as OneSct, sct_list_of}
use Rattle.sigstore_types_parts.specs.TimeRange.{is_by}
use Rattle.sigstore_keys.specs.declared.distinct.Threshold.{Threshold}
use Rattle.sigstore_keys.specs.Distinct.{is_enough}
use Rattle.certificate_claims.specs.declared.certificate_info.CertificateInfo.{CertificateInfo}
use Rattle.certificate_claims.specs.ClaimNames.{claim_in}
use Rattle.certificate_fields.specs.Fields.{value_of, extensions_of}
use Rattle.path_core.specs.declared.error.LeafFault.TheVariants as leaf
use Rattle.path_core.specs.declared.error.PathError.{PathError}
use Rattle.path_core.specs.declared.error.PathError.TheVariants as path
use Rattle.path_core.specs.declared.purpose.Purpose.TheVariants.{CodeSigning}
use Rattle.path_core.specs.declared.route.FoundPath.{FoundPath}
use Rattle.path_core.specs.Path.{path_of}
use Rattle.path_core.specs.Paths.{Setting, setting}
use Rattle.path_core.specs.Refusal.{Refuses}
use Rattle.path_core.specs.Traits.{leaf_of, leaf_read}
use Rattle.path_core.proofs.FirstPath.{refused_means}
use Rattle.sigstore_policy.specs.declared.certificate.CertificatePolicy.{CertificatePolicy}
use Rattle.sigstore_policy.specs.declared.certificate.CertificatePolicy.TheVariants.{Skip, Verify}
use Rattle.sigstore_policy.specs.declared.certificate.IdentityMatcher.{IdentityMatcher}
use Rattle.sigstore_policy.specs.declared.certificate.VerificationPolicy.{VerificationPolicy}
use Rattle.sigstore_policy.specs.declared.matcher.ClaimMatcher.{ClaimMatcher}
use Rattle.sigstore_certificate.specs.declared.error.SctRule.{SctRule}
use Rattle.sigstore_certificate.specs.declared.error.SctRule.TheVariants as rule
use Rattle.sigstore_certificate.specs.declared.error.CertificateRefusal.{CertificateRefusal}
use Rattle.sigstore_certificate.specs.declared.error.CertificateRefusal.TheVariants as refusal
use Rattle.sigstore_certificate.specs.Cause.{IsNoLeaf, LacksAuthority, LacksPath, IsEarly, IsLate, no_extension, unread, HasKnown, no_part, no_length, HasTooFew, SctCause, LacksLog, Cause, Refusals}
use Rattle.sigstore_certificate.specs.Certified.{Trust, has_authority, authority_judged, window_judged, issued_at, some_time_judged, at_each, issued_at_each, parts_read, leaf_scts_judged, scts_asked, chain_verified, chain_judged, certified_of}
use Rattle.sigstore_certificate.specs.Error.{refusal_of_path, by_path}
use Rattle.sigstore_certificate.specs.Names.{is_matched, identity_judged, is_text, issuer_judged, claim_judged, claims_judged, names_judged}
use Rattle.sigstore_policy.specs.Certificate.{verifies_chain, verifies_sct}
use Rattle.sigstore_policy.specs.Matcher.{is_matched as is_text_matched}
use Rattle.sigstore_certificate.specs.Scts.{refused_by, scts_in, listed, scts_of, scheme_of, has_scheme, some_scheme, is_of_logs, some_log, written, signed_part_of, is_good_sct, promising_logs, enough_logs, scts_judged}
use Rattle.sigstore_certificate.proofs.NamesLaw.{passes}
use Rattle.sigstore_certificate.proofs.Among.{among_from_any, any_from_among}
use Rattle.sigstore_certificate.proofs.SctLaw.{known_means, shortened, part_means}

first : {A : Type 0} (x : A) (xs : List A) → Contains (x ∷ xs) x
first x xs = (0, omega arith, refl)

later : {A : Type 0} (x : A) (xs : List A) (y : A) → Contains xs y → Contains (x ∷ xs) y
later x xs y c = (suc c.0, omega (arith, c.1), c.2)

-- of no member a test holds that holds of none
none_among : {X : Type 0} (p : X → Bool) (xs : List X) → list_any p xs ≡ false → (x : X) → Contains xs x → p x ≡ false
none_among p xs none x among = by (p x) refl
  where
    by : (b : Bool) → p x ≡ b → b ≡ false
    by true is = sym (any_from_among p xs x among is) ∙ none
    by false is = refl

not_some : {X : Type 0} (o : Option X) → is_some o ≡ false → o ≡ None
not_some None h = refl
not_some (Some x) h = cc

some_is : {X : Type 0} (o : Option X) → is_some o ≡ true → (x : X) × (o ≡ Some x)
some_is None h = cc
some_is (Some x) h = (x, refl)

through_path : (r : Result FoundPath PathError) (e : CertificateRefusal) → by_path r ≡ Err e → (why : PathError) × (r ≡ Err why) × (refusal_of_path why ≡ e)
through_path (Ok x) e h = cc
through_path (Err why) e h = (why, refl, err_same (refusal_of_path why) e h)

module _ (t : Trust) (info : CertificateInfo) (leaf_der : List ℕ) (intermediates : List (List ℕ)) where
  abbrev at : Timestamp → Setting
  at time = setting t.accepts leaf_der intermediates t.anchors CodeSigning time

  -- ---- at one of the times

  abbrev pub TimeCause : List Timestamp → CertificateRefusal → Type 0
  TimeCause times refusal.Malformed = IsNoLeaf leaf_der
  TimeCause times refusal.ChainInvalid = LacksPath t leaf_der intermediates times
  TimeCause times (refusal.NoValidAuthority time) = LacksAuthority t times time
  TimeCause times (refusal.NotYetValid time not_before) = IsEarly info times time not_before
  TimeCause times (refusal.Expired time not_after) = IsLate info times time not_after
  TimeCause times _ = ⊥

  onward : (time : Timestamp) (times : List Timestamp) (e : CertificateRefusal) → TimeCause times e → TimeCause (time ∷ times) e
  onward time times refusal.Malformed c = c
  onward time times refusal.ChainInvalid c = record { time = c.time; among = later time times c.time c.among; none = c.none }
  onward time times (refusal.NoValidAuthority at_time) c = record { among = later time times at_time c.among; none = c.none }
  onward time times (refusal.NotYetValid at_time not_before) c = record { among = later time times at_time c.among; start = c.start; early = c.early }
  onward time times (refusal.Expired at_time not_after) c = record { among = later time times at_time c.among; ended = c.ended; late = c.late }
  onward time times _ c = absurd c

  authority_caused : (time : Timestamp) (times : List Timestamp) (e : CertificateRefusal) → authority_judged t.anchors time ≡ Err e → TimeCause (time ∷ times) e
  authority_caused time times e h = by (has_authority t.anchors time) refl h
    where
      by : (b : Bool) → has_authority t.anchors time ≡ b → ◌≡◌ {A = Result ⊤ CertificateRefusal} (if b then Ok tt else Err (refusal.NoValidAuthority time)) (Err e) → TimeCause (time ∷ times) e
      by true is k = cc
      by false is k = subst (TimeCause (time ∷ times)) (err_same (refusal.NoValidAuthority time) e k) (record { among = first time times; none = is })

  path_caused : (time : Timestamp) (times : List Timestamp) (why : PathError) → Refuses (at time) why → why ≢ path.NoMemory → TimeCause (time ∷ times) (refusal_of_path why)
  path_caused time times (path.Leaf leaf.Unreadable) s n = record { fault = leaf.Unreadable; lacks = s; malformed = refl }
  path_caused time times (path.Leaf leaf.Version) s n = record { fault = leaf.Version; lacks = s; malformed = refl }
  path_caused time times (path.Leaf leaf.CriticalExtension) s n = record { fault = leaf.CriticalExtension; lacks = s; malformed = refl }
  path_caused time times (path.Leaf leaf.IsCa) s n = record { time = time; among = first time times; none = λ p is. no_both tt leaf.IsCa (sym is.leaf ∙ s) }
  path_caused time times (path.Leaf leaf.Purpose) s n = record { time = time; among = first time times; none = λ p is. no_both tt leaf.Purpose (sym is.leaf ∙ s) }
  path_caused time times path.NoPath s n = record { time = time; among = first time times; none = s.none }
  path_caused time times path.NameConstraints s n = absurd s
  path_caused time times path.Certificate s n = absurd s
  path_caused time times path.NoMemory s n = absurd (n refl)

  window_caused : (time : Timestamp) (times : List Timestamp) (e : CertificateRefusal) → window_judged info time ≡ Err e → TimeCause (time ∷ times) e
  window_caused time times e h = by (is_by info.not_before time) (is_by time info.not_after) refl refl h
    where
      by : (a b : Bool) → is_by info.not_before time ≡ a → is_by time info.not_after ≡ b
          → ◌≡◌ {A = Result ⊤ CertificateRefusal} (if a then (if b then Ok tt else Err (refusal.Expired time info.not_after)) else Err (refusal.NotYetValid time info.not_before)) (Err e)
          → TimeCause (time ∷ times) e
      by true true p q k = cc
      by true false p q k = subst (TimeCause (time ∷ times)) (err_same (refusal.Expired time info.not_after) e k) (record { among = first time times; ended = refl; late = q })
      by false b p q k = subst (TimeCause (time ∷ times)) (err_same (refusal.NotYetValid time info.not_before) e k) (record { among = first time times; start = refl; early = p })

  time_caused : (time : Timestamp) (times : List Timestamp) (e : CertificateRefusal) → issued_at t info leaf_der intermediates time ≡ Err e → TimeCause (time ∷ times) e
  unfolding issued_at
  time_caused time times e h =
      refused_at (authority_judged t.anchors time) _ e h (authority_caused time times e) (λ u p k.
      refused_at (by_path (path_of (at time))) (λ found. window_judged info time >>= λ _. Ok found.issuer_spki) e k
      (λ r. let w = through_path (path_of (at time)) e r in
      let means = refused_means (at time) w.0 w.1 in subst (TimeCause (time ∷ times)) w.2 (path_caused time times w.0 means.0 means.1)) (λ found q m.
      refused_at (window_judged info time) (λ _. Ok found.issuer_spki) e m (window_caused time times e) (λ v s o. cc)))

  pub each_caused : (times : List Timestamp) (key : List ℕ) (e : CertificateRefusal) → at_each (issued_at t info leaf_der intermediates) times key ≡ Err e → TimeCause times e
  each_caused [] key e h = cc
  each_caused (time ∷ times) key e h =
      refused_at (issued_at t info leaf_der intermediates time) (at_each (issued_at t info leaf_der intermediates) times) e h (time_caused time times e)
      (λ issuer p k. onward time times e (each_caused times issuer e k))

  -- ---- its timestamps

  module _ (threshold : Threshold) where
    abbrev pub OfTimestamps : Certificate → List ℕ → CertificateRefusal → Type 0
    OfTimestamps c issuer e =
        ((broken : SctRule) × SctCause t threshold c issuer broken × (refusal.Sct broken ≡ e)) ⊎ (LacksLog t leaf_der × (refusal.InvalidTrustRoot ≡ e))

    list_caused : (c : Certificate) (issuer : List ℕ) (e : CertificateRefusal) → scts_of c ≡ Err e → OfTimestamps c issuer e
    list_caused c issuer e h = by (value_of sct_oid (extensions_of c)) refl h
      where
        in_list : (value : List ℕ) → value_of sct_oid (extensions_of c) ≡ Some value → (r : Reading (List OneSct)) → sct_list_of value ≡ r → scts_in r ≡ Err e → OfTimestamps c issuer e
        in_list value there (Ok scts) is k = cc
        in_list value there (Err fault) is k = inl (rule.List, unread value fault there is, err_same (refusal.Sct rule.List) e k)

        by : (o : Option (List ℕ)) → value_of sct_oid (extensions_of c) ≡ o → listed o ≡ Err e → OfTimestamps c issuer e
        by None is k = inl (rule.List, no_extension is, err_same (refusal.Sct rule.List) e k)
        by (Some value) is k = in_list value is (sct_list_of value) refl k

    module _ (c : Certificate) (issuer : List ℕ) (e : CertificateRefusal) (scts : List OneSct) (listed_is : scts_of c ≡ Ok scts) where
      scheme_caused : some_scheme scts ≡ Err e → OfTimestamps c issuer e
      scheme_caused h = by (list_any has_scheme scts) refl h
        where
          by : (b : Bool) → list_any has_scheme scts ≡ b → ◌≡◌ {A = Result ⊤ CertificateRefusal} (if b then Ok tt else Err (refusal.Sct rule.Scheme)) (Err e) → OfTimestamps c issuer e
          by true is k = cc
          by false is k =
              inl (
                rule.Scheme,
                record { scts = scts; listed = listed_is; none = λ sct among. not_some (scheme_of sct.algorithm) (none_among has_scheme scts is sct among) },
                err_same (refusal.Sct rule.Scheme) e k,
              )

      log_caused : certificate_of leaf_der ≡ Ok c → list_any has_scheme scts ≡ true → some_log t.ct_logs scts ≡ Err e → OfTimestamps c issuer e
      log_caused read schemed h = by (list_any (is_of_logs t.ct_logs) scts) refl h
        where
          by : (b : Bool) → list_any (is_of_logs t.ct_logs) scts ≡ b → ◌≡◌ {A = Result ⊤ CertificateRefusal} (if b then Ok tt else Err refusal.InvalidTrustRoot) (Err e) → OfTimestamps c issuer e
          by true is k = cc
          by false is k =
              let a = among_from_any has_scheme scts schemed in
              let some = some_is (scheme_of (a.0).algorithm) a.2 in
              let lacks : LacksLog t leaf_der = record {
                parts = c;
                read = read;
                scts = scts;
                listed = listed_is;
                sct = a.0;
                among = a.1;
                scheme = some.0;
                scheme_is = some.1;
                none = none_among (is_of_logs t.ct_logs) scts is;
              } in
              inr (lacks, err_same refusal.InvalidTrustRoot e k)

      module _ (has : HasKnown t c scts) where
        part_caused : (r : Reading (List ℕ)) → precert_of c.tbs c.signed.tail.front c.signed.tail.extensions ≡ r → (written r >>= shortened) ≡ Err e
            → OfTimestamps c issuer e
        part_caused (Ok tbs) is h = by (nat_lt (length tbs) 16777216) (ltb-false (length tbs) 16777216) h
          where
            by : (b : Bool) → (b ≡ false → 16777216 ≤ length tbs) → (if b then Ok tbs else refused_by rule.Precertificate) ≡ Err e → OfTimestamps c issuer e
            by true long k = cc
            by false long k = inl (rule.Precertificate, no_length scts tbs has is (long refl), err_same (refusal.Sct rule.Precertificate) e k)
        part_caused (Err fault) is h = inl (rule.Precertificate, no_part scts fault has is, err_same (refusal.Sct rule.Precertificate) e h)

        count_caused : (tbs : List ℕ) → signed_part_of c ≡ Ok tbs
            → enough_logs threshold (promising_logs (is_good_sct t.accepts t.ct_logs (sha256 issuer) tbs) scts) ≡ Err e → OfTimestamps c issuer e
        count_caused tbs part h = by (is_enough threshold found) (leb-false threshold.value found) h
          where
            found : ℕ
            found = promising_logs (is_good_sct t.accepts t.ct_logs (sha256 issuer) tbs) scts

            by : (b : Bool) → (b ≡ false → found < threshold.value) → (if b then Ok found else refused_by (rule.TooFew threshold.value found)) ≡ Err e
                → OfTimestamps c issuer e
            by true few k = cc
            by false few k =
                let p = part_means c tbs part in
                let cause : HasTooFew t c issuer threshold.value found = record {
                  scts = scts;
                  has = has;
                  tbs = tbs;
                  tbs_is = p.tbs_is;
                  short = p.short;
                  count = refl;
                  few = few refl;
                } in
                inl (rule.TooFew threshold.value found, (refl, cause), err_same (refusal.Sct (rule.TooFew threshold.value found)) e k)

    judged_caused : (c : Certificate) (issuer : List ℕ) (e : CertificateRefusal) → certificate_of leaf_der ≡ Ok c → scts_judged t.accepts t.ct_logs threshold c issuer ≡ Err e
        → OfTimestamps c issuer e
    unfolding scts_judged
    judged_caused c issuer e read h =
        refused_at (scts_of c) _ e h (list_caused c issuer e) (λ scts p k.
        refused_at (some_scheme scts) _ e k (scheme_caused c issuer e scts p) (λ u q l.
        let schemed : list_any has_scheme scts ≡ true = passes (list_any has_scheme scts) (refusal.Sct rule.Scheme) u q in
        refused_at (some_log t.ct_logs scts) _ e l (log_caused c issuer e scts p read schemed) (λ v r m.
        let logs : list_any (is_of_logs t.ct_logs) scts ≡ true = passes (list_any (is_of_logs t.ct_logs) scts) refusal.InvalidTrustRoot v r in
        let has : HasKnown t c scts = record { listed = p; known = known_means t scts logs } in
        refused_at (signed_part_of c) (λ tbs. enough_logs threshold (promising_logs (is_good_sct t.accepts t.ct_logs (sha256 issuer) tbs) scts)) e m
        (part_caused c issuer e scts p has (precert_of c.tbs c.signed.tail.front c.signed.tail.extensions) refl)
        (λ tbs w n. count_caused c issuer e scts p has tbs w n))))

    abbrev pub SctRefused : List ℕ → CertificateRefusal → Type 0
    SctRefused issuer e = ((c : Certificate) × (certificate_of leaf_der ≡ Ok c) × OfTimestamps c issuer e) ⊎ (IsNoLeaf leaf_der × (refusal.Malformed ≡ e))

    pub scts_caused : (issuer : List ℕ) (e : CertificateRefusal) → leaf_scts_judged t threshold leaf_der issuer ≡ Err e → SctRefused issuer e
    unfolding leaf_scts_judged leaf_of
    scts_caused issuer e h = by (certificate_of leaf_der) refl h
      where
        by : (r : Reading Certificate) → certificate_of leaf_der ≡ r → (parts_read r >>= λ c. scts_judged t.accepts t.ct_logs threshold c issuer) ≡ Err e → SctRefused issuer e
        by (Ok c) is k = inl (c, is, judged_caused c issuer e is k)
        by (Err x) is k = inr (record { fault = leaf.Unreadable; lacks = ap (leaf_read CodeSigning) is; malformed = refl }, err_same refusal.Malformed e k)

  -- ---- both

  module _ (policy : VerificationPolicy) (times : List Timestamp) where
    wider : (e : CertificateRefusal) → IsTrue (verifies_chain policy.certificate) → TimeCause times e → Cause t policy info leaf_der intermediates times e
    wider refusal.Malformed a c = (a, c)
    wider refusal.ChainInvalid a c = (a, c)
    wider refusal.NoTime a c = absurd c
    wider (refusal.NoValidAuthority time) a c = (a, c)
    wider (refusal.NotYetValid time not_before) a c = (a, c)
    wider (refusal.Expired time not_after) a c = (a, c)
    wider (refusal.Sct broken) a c = absurd c
    wider refusal.InvalidTrustRoot a c = absurd c
    wider (refusal.IdentityMismatch matcher actual) a c = absurd c
    wider (refusal.IssuerMismatch text actual) a c = absurd c
    wider (refusal.ClaimMismatch name matcher actual) a c = absurd c
    wider refusal.NoMemory a c = absurd c

    lacking : (issuer : List ℕ) (e : CertificateRefusal) → policy.certificate ≡ Verify true → issued_at_each t info leaf_der intermediates times ≡ Ok issuer
        → SctRefused policy.scts issuer e
        → Cause t policy info leaf_der intermediates times e
    lacking issuer e asked valid (inl (c, read, inl s)) =
        subst (Cause t policy info leaf_der intermediates times) s.2
        (ap verifies_sct asked, record { issuer = issuer; valid = valid; parts = c; read = read; cause = s.1 })
    lacking issuer e asked valid (inl (c, read, inr s)) = subst (Cause t policy info leaf_der intermediates times) s.1 (ap verifies_sct asked, s.0)
    lacking issuer e asked valid (inr s) = subst (Cause t policy info leaf_der intermediates times) s.1 (ap verifies_chain asked, s.0)

    asked_caused : (verify_sct : Bool) (issuer : List ℕ) (e : CertificateRefusal) → policy.certificate ≡ Verify verify_sct → issued_at_each t info leaf_der intermediates times ≡ Ok issuer
        → scts_asked t verify_sct policy.scts leaf_der issuer ≡ Err e → Cause t policy info leaf_der intermediates times e
    asked_caused true issuer e asked valid h = lacking issuer e asked valid (scts_caused policy.scts issuer e h)
    asked_caused false issuer e asked valid h = cc

    untimed : (e : CertificateRefusal) → IsTrue (verifies_chain policy.certificate) → (ts : List Timestamp) → times ≡ ts → some_time_judged ts ≡ Err e
        → Cause t policy info leaf_der intermediates times e
    untimed e asked [] is h = subst (Cause t policy info leaf_der intermediates times) (err_same refusal.NoTime e h) (asked, is)
    untimed e asked (time ∷ ts) is h = cc

    chain_caused : (p : CertificatePolicy) (e : CertificateRefusal) → policy.certificate ≡ p → chain_judged t p policy.scts info leaf_der intermediates times ≡ Err e
        → Cause t policy info leaf_der intermediates times e
    unfolding chain_verified
    chain_caused Skip e asked h = cc
    chain_caused (Verify verify_sct) e asked h =
        refused_at (some_time_judged times) (λ _. issued_at_each t info leaf_der intermediates times >>= scts_asked t verify_sct policy.scts leaf_der) e h
        (λ r. untimed e (ap verifies_chain asked) times refl r) (λ v q l.
        refused_at (issued_at_each t info leaf_der intermediates times) (scts_asked t verify_sct policy.scts leaf_der) e l
        (λ r. wider e (ap verifies_chain asked) (each_caused times [] e r)) (λ issuer p k. asked_caused verify_sct issuer e asked p k))

    -- ---- the names

    identity_caused : (asked : Option IdentityMatcher) (e : CertificateRefusal) → policy.identity ≡ asked → identity_judged asked info.identity ≡ Err e
        → Cause t policy info leaf_der intermediates times e
    identity_caused None e is h = cc
    identity_caused (Some matcher) e is h = by (is_matched matcher info.identity) refl h
      where
        by : (b : Bool) → is_matched matcher info.identity ≡ b → ◌≡◌ {A = Result ⊤ CertificateRefusal} (if b then Ok tt else Err (refusal.IdentityMismatch matcher info.identity)) (Err e)
            → Cause t policy info leaf_der intermediates times e
        by true p k = cc
        by false p k =
            subst (Cause t policy info leaf_der intermediates times) (err_same (refusal.IdentityMismatch matcher info.identity) e k) (record { asked = is; said = refl; other = p })

    issuer_caused : (asked : Option (List ℕ)) (e : CertificateRefusal) → policy.issuer ≡ asked → issuer_judged asked info.issuer ≡ Err e
        → Cause t policy info leaf_der intermediates times e
    issuer_caused None e is h = cc
    issuer_caused (Some text) e is h = by (is_text text info.issuer) refl h
      where
        by : (b : Bool) → is_text text info.issuer ≡ b → ◌≡◌ {A = Result ⊤ CertificateRefusal} (if b then Ok tt else Err (refusal.IssuerMismatch text info.issuer)) (Err e)
            → Cause t policy info leaf_der intermediates times e
        by true p k = cc
        by false p k =
            subst (Cause t policy info leaf_der intermediates times) (err_same (refusal.IssuerMismatch text info.issuer) e k) (record { asked = is; said = refl; other = p })

    claim_caused : (one : ClaimMatcher) (e : CertificateRefusal) → Contains policy.claims one → claim_judged one info.ci_claims ≡ Err e
        → Cause t policy info leaf_der intermediates times e
    claim_caused one e among h = by (is_text_matched one.text told) refl h
      where
        told : Option (List ℕ)
        told = claim_in info.ci_claims one.name

        by : (b : Bool) → is_text_matched one.text told ≡ b → ◌≡◌ {A = Result ⊤ CertificateRefusal} (if b then Ok tt else Err (refusal.ClaimMismatch one.name one.text told)) (Err e)
            → Cause t policy info leaf_der intermediates times e
        by true p k = cc
        by false p k =
            subst (Cause t policy info leaf_der intermediates times) (err_same (refusal.ClaimMismatch one.name one.text told) e k) (record { among = among; said = refl; other = p })

    claims_caused : (asked : List ClaimMatcher) (e : CertificateRefusal) → ((one : ClaimMatcher) → Contains asked one → Contains policy.claims one)
        → claims_judged asked info.ci_claims ≡ Err e → Cause t policy info leaf_der intermediates times e
    claims_caused [] e within h = cc
    claims_caused (one ∷ others) e within h =
        refused_at (claim_judged one info.ci_claims) (λ _. claims_judged others info.ci_claims) e h
        (λ r. claim_caused one e (within one (first one others)) r)
        (λ v q k. claims_caused others e (λ x among. within x (later one others x among)) k)

    pub caused : (e : CertificateRefusal) → certified_of t policy info leaf_der intermediates times ≡ Err e → Cause t policy info leaf_der intermediates times e
    unfolding certified_of
    caused e h =
        refused_at (chain_judged t policy.certificate policy.scts info leaf_der intermediates times) (λ count. names_judged policy info >>= λ _. Ok count) e h
        (chain_caused policy.certificate e refl) (λ count p k.
        refused_at (names_judged policy info) (λ _. Ok count) e k (λ n.
        refused_at (identity_judged policy.identity info.identity) (λ _. issuer_judged policy.issuer info.issuer >>= λ _. claims_judged policy.claims info.ci_claims) e n
        (identity_caused policy.identity e refl) (λ v q l.
        refused_at (issuer_judged policy.issuer info.issuer) (λ _. claims_judged policy.claims info.ci_claims) e l (issuer_caused policy.issuer e refl)
        (λ w r m. claims_caused policy.claims e (λ one among. among) m))) (λ v q l. cc))

pub refusals : Refusals
refusals t policy info leaf_der intermediates times e h = caused t info leaf_der intermediates policy times e h
