-- The names of a certificate are looked at last: a refusal by them says that all else that is asked of it holds.
use Rattle.std.proofs.Common.{◌≡◌, List, [], ◌∷◌, ℕ, Bool, true, false, inl, inr, Err, sym, subst}
use Rattle.foundation.specs.Steps.{◌>>=◌}
use Rattle.foundation.specs.Results.{err_same, refused_at}
use Rattle.std.specs.Prelude.{⊤}
use Rattle.jiff_core.specs.declared.timestamp.Timestamp.{Timestamp}
use Rattle.sigstore_keys.specs.declared.distinct.Threshold.{Threshold}
use Rattle.certificate_claims.specs.declared.certificate_info.CertificateInfo.{CertificateInfo}
use Rattle.sigstore_policy.specs.declared.certificate.CertificatePolicy.{CertificatePolicy}
use Rattle.sigstore_policy.specs.declared.certificate.CertificatePolicy.TheVariants.{Skip, Verify}
use Rattle.sigstore_certificate.specs.declared.error.CertificateRefusal.{CertificateRefusal}
use Rattle.sigstore_certificate.specs.declared.error.CertificateRefusal.TheVariants as refusal
use Rattle.sigstore_certificate.specs.Certified.{Trust, some_time_judged, issued_at_each, scts_asked, chain_verified, chain_judged}
use Rattle.sigstore_certificate.proofs.CauseLaw.{TimeCause, each_caused, SctRefused, scts_caused}

-- the refusals by names
abbrev pub IsByNames : CertificateRefusal → Type 0
IsByNames (refusal.IdentityMismatch matcher actual) = ⊤
IsByNames (refusal.IssuerMismatch text actual) = ⊤
IsByNames (refusal.ClaimMismatch name matcher actual) = ⊤
IsByNames _ = ⊥

module _ (t : Trust) (info : CertificateInfo) (leaf_der : List ℕ) (intermediates : List (List ℕ)) where
  by_no_time : (times : List Timestamp) (e : CertificateRefusal) → some_time_judged times ≡ Err e → IsByNames e → ⊥
  by_no_time [] e h n = subst IsByNames (sym (err_same refusal.NoTime e h)) n
  by_no_time (time ∷ times) e h n = cc

  by_time : (times : List Timestamp) (e : CertificateRefusal) → TimeCause t info leaf_der intermediates times e → IsByNames e → ⊥
  by_time times (refusal.IdentityMismatch matcher actual) c n = absurd c
  by_time times (refusal.IssuerMismatch text actual) c n = absurd c
  by_time times (refusal.ClaimMismatch name matcher actual) c n = absurd c
  by_time times _ c n = absurd n

  by_scts : (asked : Threshold) (issuer : List ℕ) (e : CertificateRefusal) → SctRefused t info leaf_der intermediates asked issuer e → IsByNames e → ⊥
  by_scts asked issuer e (inl (c, read, inl s)) n = subst IsByNames (sym s.2) n
  by_scts asked issuer e (inl (c, read, inr s)) n = subst IsByNames (sym s.1) n
  by_scts asked issuer e (inr s) n = subst IsByNames (sym s.1) n

  by_asked : (verify_sct : Bool) (asked : Threshold) (issuer : List ℕ) (e : CertificateRefusal) → scts_asked t verify_sct asked leaf_der issuer ≡ Err e → IsByNames e → ⊥
  by_asked true asked issuer e h n = by_scts asked issuer e (scts_caused t info leaf_der intermediates asked issuer e h) n
  by_asked false asked issuer e h n = cc

  -- nothing else refuses so
  pub by_chain : (p : CertificatePolicy) (asked : Threshold) (times : List Timestamp) (e : CertificateRefusal) → chain_judged t p asked info leaf_der intermediates times ≡ Err e → IsByNames e → ⊥
  unfolding chain_verified
  by_chain Skip asked times e h n = cc
  by_chain (Verify verify_sct) asked times e h n =
      refused_at (some_time_judged times) (λ _. issued_at_each t info leaf_der intermediates times >>= scts_asked t verify_sct asked leaf_der) e h
      (λ r. by_no_time times e r n) (λ v q l.
      refused_at (issued_at_each t info leaf_der intermediates times) (scts_asked t verify_sct asked leaf_der) e l
      (λ r. by_time times e (each_caused t info leaf_der intermediates times [] e r) n) (λ issuer p k. by_asked verify_sct asked issuer e k n))
