-- A certificate is accepted exactly where it is to be.
use Rattle.std.proofs.Common.{◌≡◌, ◌≢◌, ℕ, List, [], ◌∷◌, Bool, true, false, if◌then◌else◌, Result, Ok, Err, refl, sym, ap, ◌∙◌}
use Rattle.std.specs.Prelude.{⊤, Contains, IsTrue}
use Rattle.foundation.specs.Steps.{◌>>=◌}
use Rattle.foundation.specs.Results.{step_ok, ok_same}
use Rattle.jiff_core.specs.declared.timestamp.Timestamp.{Timestamp}
use Rattle.sigstore_types_parts.specs.TimeRange.{is_by}
use Rattle.sigstore_keys.specs.declared.distinct.Threshold.{Threshold}
use Rattle.sigstore_keys.specs.Keyring.{is_used_at}
use Rattle.certificate_claims.specs.declared.certificate_info.CertificateInfo.{CertificateInfo}
use Rattle.path_core.specs.declared.error.PathError.{PathError}
use Rattle.path_core.specs.declared.purpose.Purpose.TheVariants.{CodeSigning}
use Rattle.path_core.specs.declared.route.FoundPath.{FoundPath}
use Rattle.path_core.specs.Anchors.{TrustAnchor}
use Rattle.path_core.specs.Path.{path_of}
use Rattle.path_core.specs.Paths.{Setting, setting}
use Rattle.path_core.proofs.FirstPath.{found_is, found_means}
use Rattle.sigstore_policy.specs.declared.certificate.CertificatePolicy.{CertificatePolicy}
use Rattle.sigstore_policy.specs.declared.certificate.CertificatePolicy.TheVariants.{Skip, Verify}
use Rattle.sigstore_policy.specs.declared.certificate.VerificationPolicy.{VerificationPolicy}
use Rattle.sigstore_certificate.specs.declared.error.CertificateRefusal.{CertificateRefusal}
use Rattle.sigstore_certificate.specs.declared.error.CertificateRefusal.TheVariants.{NoValidAuthority, NotYetValid, Expired}
use Rattle.sigstore_certificate.specs.Certified.{Trust, has_authority, authority_judged, window_judged, issued_at, some_time_judged, at_each, issued_at_each, scts_asked, chain_verified, chain_judged, certified_of}
use Rattle.sigstore_certificate.specs.Error.{by_path}
use Rattle.sigstore_certificate.specs.IsCertified.{IsValidAt, IsValidAtEach, HasSctsIf, IsChainedIf, IsCertified, CertifiedExactly}
use Rattle.sigstore_certificate.specs.Names.{names_judged}
use Rattle.sigstore_certificate.proofs.Among.{among_from_any, any_from_among}
use Rattle.sigstore_certificate.proofs.NamesLaw.{passes, names_mean, names_pass}
use Rattle.sigstore_certificate.proofs.SctLaw.{scts_mean, scts_pass}

-- ---- at one time

abbrev Opens : List TrustAnchor → Timestamp → Type 0
Opens anchors time = (anchor : TrustAnchor) × Contains anchors anchor × IsTrue (is_used_at time anchor.valid_for)

authority_means : (anchors : List TrustAnchor) (time : Timestamp) (x : ⊤) → authority_judged anchors time ≡ Ok x → Opens anchors time
authority_means anchors time x h =
    among_from_any (λ (anchor : TrustAnchor). is_used_at time anchor.valid_for) anchors (passes (has_authority anchors time) (NoValidAuthority time) x h)

authority_passes : (anchors : List TrustAnchor) (time : Timestamp) → Opens anchors time → authority_judged anchors time ≡ Ok tt
authority_passes anchors time o =
    ap (λ (b : Bool). if b then Ok tt else Err (NoValidAuthority time))
    (any_from_among (λ (anchor : TrustAnchor). is_used_at time anchor.valid_for) anchors o.0 o.1 o.2)

window_means : (info : CertificateInfo) (time : Timestamp) (x : ⊤) → window_judged info time ≡ Ok x → IsTrue (is_by info.not_before time) × IsTrue (is_by time info.not_after)
window_means info time x h = by (is_by info.not_before time) (is_by time info.not_after) h
  where
    by : (a b : Bool) → ◌≡◌ {A = Result ⊤ CertificateRefusal} (if a then (if b then Ok tt else Err (Expired time info.not_after)) else Err (NotYetValid time info.not_before)) (Ok x)
        → (a ≡ true) × (b ≡ true)
    by true true k = (refl, refl)
    by true false k = cc
    by false b k = cc

window_passes : (info : CertificateInfo) (time : Timestamp) → IsTrue (is_by info.not_before time) → IsTrue (is_by time info.not_after) → window_judged info time ≡ Ok tt
window_passes info time a b =
    ap (λ (t : Bool). if t then (if is_by time info.not_after then Ok tt else Err (Expired time info.not_after)) else Err (NotYetValid time info.not_before)) a
    ∙ ap (λ (t : Bool). if t then Ok tt else Err (Expired time info.not_after)) b

ok_path : (r : Result FoundPath PathError) (p : FoundPath) → by_path r ≡ Ok p → r ≡ Ok p
ok_path (Ok q) p h = ap Ok (ok_same q p h)
ok_path (Err e) p h = cc

module _ (t : Trust) (info : CertificateInfo) (leaf : List ℕ) (intermediates : List (List ℕ)) where
  abbrev at : Timestamp → Setting
  at time = setting t.accepts leaf intermediates t.anchors CodeSigning time

  abbrev after_path : Timestamp → FoundPath → Result (List ℕ) CertificateRefusal
  after_path time path = window_judged info time >>= λ _. Ok path.issuer_spki

  abbrev after_authority : Timestamp → ⊤ → Result (List ℕ) CertificateRefusal
  after_authority time u = by_path (path_of (at time)) >>= after_path time

  valid_means : (time : Timestamp) (issuer : List ℕ) → issued_at t info leaf intermediates time ≡ Ok issuer → IsValidAt t info leaf intermediates time issuer
  unfolding issued_at
  valid_means time issuer h =
      let a = step_ok (authority_judged t.anchors time) (after_authority time) issuer h in
      let b = step_ok (by_path (path_of (at time))) (after_path time) issuer a.2 in
      let c = step_ok (window_judged info time) (λ _. Ok (b.0).issuer_spki) issuer b.2 in
      let o = authority_means t.anchors time a.0 a.1 in
      let w = window_means info time c.0 c.1 in
      record {
        anchor = o.0;
        among = o.1;
        used = o.2;
        path = b.0;
        first = found_means (at time) b.0 (ok_path (path_of (at time)) b.0 b.1);
        started = w.0;
        unended = w.1;
        issuer_is = ok_same (b.0).issuer_spki issuer c.2;
      }

  valid_passes : (time : Timestamp) (issuer : List ℕ) → IsValidAt t info leaf intermediates time issuer → issued_at t info leaf intermediates time ≡ Ok issuer
  unfolding issued_at
  valid_passes time issuer v =
      ap (λ r. r >>= after_authority time) (authority_passes t.anchors time (v.anchor, v.among, v.used))
      ∙ ap (λ r. by_path r >>= after_path time) (found_is (at time) v.path v.first)
      ∙ ap (λ r. r >>= λ _. Ok v.path.issuer_spki) (window_passes info time v.started v.unended)
      ∙ ap Ok v.issuer_is

  -- ---- at each

  abbrev each : List Timestamp → List ℕ → Result (List ℕ) CertificateRefusal
  each times before = at_each (issued_at t info leaf intermediates) times before

  each_means : (times : List Timestamp) (before issuer : List ℕ) → each times before ≡ Ok issuer → IsValidAtEach t info leaf intermediates times before issuer
  each_means [] before issuer h = ok_same before issuer h
  each_means (time ∷ times) before issuer h =
      let s = step_ok (issued_at t info leaf intermediates time) (each times) issuer h in
      (s.0, valid_means time s.0 s.1, each_means times s.0 issuer s.2)

  each_passes : (times : List Timestamp) (before issuer : List ℕ) → IsValidAtEach t info leaf intermediates times before issuer → each times before ≡ Ok issuer
  each_passes [] before issuer v = ap Ok v
  each_passes (time ∷ times) before issuer v =
      ap (λ r. r >>= each times) (valid_passes time v.0 v.1) ∙ each_passes times v.0 issuer v.2

  -- ---- with its timestamps

  timed_means : (times : List Timestamp) (x : ⊤) → some_time_judged times ≡ Ok x → times ≢ []
  timed_means [] x h = λ same. cc
  timed_means (time ∷ times) x h = λ none. cc

  timed_passes : (times : List Timestamp) → times ≢ [] → some_time_judged times ≡ Ok tt
  timed_passes [] timed = absurd (timed refl)
  timed_passes (time ∷ times) timed = refl

  abbrev after_time : Bool → Threshold → List Timestamp → ⊤ → Result ℕ CertificateRefusal
  after_time verify_sct asked times u = issued_at_each t info leaf intermediates times >>= scts_asked t verify_sct asked leaf

  asked_means : (verify_sct : Bool) (asked : Threshold) (issuer : List ℕ) (count : ℕ) → scts_asked t verify_sct asked leaf issuer ≡ Ok count
      → HasSctsIf verify_sct t asked leaf issuer count
  asked_means true asked issuer count h = scts_mean t asked leaf issuer count h
  asked_means false asked issuer count h = sym (ok_same 0 count h)

  asked_passes : (verify_sct : Bool) (asked : Threshold) (issuer : List ℕ) (count : ℕ) → HasSctsIf verify_sct t asked leaf issuer count
      → scts_asked t verify_sct asked leaf issuer ≡ Ok count
  asked_passes true asked issuer count s = scts_pass t asked leaf issuer count s
  asked_passes false asked issuer count s = ap Ok (sym s)

  chain_means : (policy : CertificatePolicy) (asked : Threshold) (times : List Timestamp) (count : ℕ)
      → chain_judged t policy asked info leaf intermediates times ≡ Ok count → IsChainedIf t policy asked info leaf intermediates times count
  unfolding chain_verified
  chain_means Skip asked times count h = sym (ok_same 0 count h)
  chain_means (Verify verify_sct) asked times count h =
      let a = step_ok (some_time_judged times) (after_time verify_sct asked times) count h in
      let s = step_ok (issued_at_each t info leaf intermediates times) (scts_asked t verify_sct asked leaf) count a.2 in
      record { timed = timed_means times a.0 a.1; issuer = s.0; valid = each_means times [] s.0 s.1; scts = asked_means verify_sct asked s.0 count s.2 }

  chain_passes : (policy : CertificatePolicy) (asked : Threshold) (times : List Timestamp) (count : ℕ)
      → IsChainedIf t policy asked info leaf intermediates times count → chain_judged t policy asked info leaf intermediates times ≡ Ok count
  unfolding chain_verified
  chain_passes Skip asked times count c = ap Ok (sym c)
  chain_passes (Verify verify_sct) asked times count c =
      ap (λ r. r >>= after_time verify_sct asked times) (timed_passes times c.timed)
      ∙ ap (λ r. r >>= scts_asked t verify_sct asked leaf) (each_passes times [] c.issuer c.valid)
      ∙ asked_passes verify_sct asked c.issuer count c.scts

  -- ---- with the names

  module _ (policy : VerificationPolicy) where
    abbrev counted : ℕ → ⊤ → Result ℕ CertificateRefusal
    counted count u = Ok count

    abbrev named : ℕ → Result ℕ CertificateRefusal
    named count = names_judged policy info >>= counted count

    pub accepted_means : (times : List Timestamp) (count : ℕ) → certified_of t policy info leaf intermediates times ≡ Ok count
        → IsCertified t policy info leaf intermediates times count
    unfolding certified_of
    accepted_means times count h =
        let s = step_ok (chain_judged t policy.certificate policy.scts info leaf intermediates times) named count h in
        let r = step_ok (names_judged policy info) (counted s.0) count s.2 in
        let n = names_mean policy info r.0 r.1 in
        record {
          chain = chain_means policy.certificate policy.scts times count (s.1 ∙ r.2);
          identity = n.0;
          issuer = n.1.0;
          claims = n.1.1;
        }

    pub accepted_passes : (times : List Timestamp) (count : ℕ) → IsCertified t policy info leaf intermediates times count
        → certified_of t policy info leaf intermediates times ≡ Ok count
    unfolding certified_of
    accepted_passes times count c =
        ap (λ r. r >>= named) (chain_passes policy.certificate policy.scts times count c.chain)
        ∙ ap (λ r. r >>= counted count) (names_pass policy info c.identity c.issuer c.claims)

pub certified_exactly : CertifiedExactly
certified_exactly t policy info leaf intermediates times count =
    (accepted_means t info leaf intermediates policy times count, accepted_passes t info leaf intermediates policy times count)
