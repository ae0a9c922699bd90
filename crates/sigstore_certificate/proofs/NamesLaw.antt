-- A certificate's names and claims are accepted exactly where they are those that are asked for.
use Rattle.std.proofs.Common.{◌≡◌, ℕ, List, [], ◌∷◌, Bool, true, false, if◌then◌else◌, Option, Some, None, Result, Ok, Err, refl, sym, ap, ◌∙◌}
use Rattle.std.specs.Prelude.{⊤}
use Rattle.std.proofs.lemmas.Slice.Eq.{bytes_eq-Decides}
use Rattle.foundation.specs.Steps.{◌>>=◌}
use Rattle.foundation.specs.Results.{step_ok}
use Rattle.certificate_claims.specs.declared.certificate_info.CertificateInfo.{CertificateInfo}
use Rattle.certificate_claims.specs.declared.certificate_info.SubjectAltName.{SubjectAltName}
use Rattle.sigstore_policy.specs.declared.certificate.IdentityMatcher.{IdentityMatcher}
use Rattle.sigstore_policy.specs.declared.certificate.VerificationPolicy.{VerificationPolicy}
use Rattle.sigstore_certificate.specs.declared.error.CertificateRefusal.{CertificateRefusal}
use Rattle.sigstore_certificate.specs.declared.error.CertificateRefusal.TheVariants.{IdentityMismatch, IssuerMismatch, ClaimMismatch}
use Rattle.sigstore_certificate.specs.IsCertified.{HasIdentity, HasIssuer, HasClaim, HasClaims}
use Rattle.sigstore_certificate.specs.Names.{identity_judged, is_text, issuer_judged, claim_judged, claims_judged, names_judged}
use Rattle.certificate_claims.specs.declared.claims.FulcioCiClaims.{FulcioCiClaims}
use Rattle.certificate_claims.specs.ClaimNames.{claim_in}
use Rattle.sigstore_policy.specs.declared.matcher.ClaimMatcher.{ClaimMatcher}
use Rattle.sigstore_policy.specs.Certificate.{matches}
use Rattle.sigstore_policy.specs.Matcher.{text_matches, is_matched as is_text_matched}

-- a test that is passed
pub passes : (b : Bool) (e : CertificateRefusal) (x : ⊤) → ◌≡◌ {A = Result ⊤ CertificateRefusal} (if b then Ok tt else Err e) (Ok x) → b ≡ true
passes true e x h = refl
passes false e x h = cc

identity_means : (asked : Option IdentityMatcher) (actual : Option SubjectAltName) (x : ⊤) → identity_judged asked actual ≡ Ok x → HasIdentity asked actual
identity_means None actual x h = tt
identity_means (Some matcher) None x h = cc
identity_means (Some matcher) (Some identity) x h = (identity, refl, passes (matches matcher identity) (IdentityMismatch matcher (Some identity)) x h)

identity_passes : (asked : Option IdentityMatcher) (actual : Option SubjectAltName) → HasIdentity asked actual → identity_judged asked actual ≡ Ok tt
identity_passes None actual i = refl
identity_passes (Some matcher) actual i =
    ap (λ a. identity_judged (Some matcher) a) i.1
    ∙ ap (λ (b : Bool). if b then Ok tt else Err (IdentityMismatch matcher (Some i.0))) i.2

issuer_means : (asked actual : Option (List ℕ)) (x : ⊤) → issuer_judged asked actual ≡ Ok x → HasIssuer asked actual
issuer_means None actual x h = tt
issuer_means (Some text) None x h = cc
issuer_means (Some text) (Some actual) x h =
    ap Some (sym ((bytes_eq-Decides text actual).0 (passes (is_text text (Some actual)) (IssuerMismatch text (Some actual)) x h)))

issuer_passes : (asked actual : Option (List ℕ)) → HasIssuer asked actual → issuer_judged asked actual ≡ Ok tt
issuer_passes None actual i = refl
issuer_passes (Some text) actual i =
    ap (λ a. issuer_judged (Some text) a) i
    ∙ ap (λ (b : Bool). if b then Ok tt else Err (IssuerMismatch text (Some text))) ((bytes_eq-Decides text text).1 refl)

claim_means : (asked : ClaimMatcher) (claims : FulcioCiClaims) (x : ⊤) → claim_judged asked claims ≡ Ok x → HasClaim claims asked
claim_means asked claims x h = by (claim_in claims asked.name) refl h
  where
    by : (told : Option (List ℕ)) → claim_in claims asked.name ≡ told
        → ◌≡◌ {A = Result ⊤ CertificateRefusal} (if is_text_matched asked.text told then Ok tt else Err (ClaimMismatch asked.name asked.text told)) (Ok x)
        → HasClaim claims asked
    by None is k = cc
    by (Some text) is k = (text, is, passes (text_matches asked.text text) (ClaimMismatch asked.name asked.text (Some text)) x k)

claim_passes : (asked : ClaimMatcher) (claims : FulcioCiClaims) → HasClaim claims asked → claim_judged asked claims ≡ Ok tt
claim_passes asked claims c =
    ap (λ told. if is_text_matched asked.text told then Ok tt else Err (ClaimMismatch asked.name asked.text told)) c.1
    ∙ ap (λ (b : Bool). if b then Ok tt else Err (ClaimMismatch asked.name asked.text (Some c.0))) c.2

claims_mean : (asked : List ClaimMatcher) (claims : FulcioCiClaims) (x : ⊤) → claims_judged asked claims ≡ Ok x → HasClaims asked claims
claims_mean [] claims x h = tt
claims_mean (one ∷ others) claims x h =
    let s = step_ok (claim_judged one claims) (λ _. claims_judged others claims) x h in
    (claim_means one claims s.0 s.1, claims_mean others claims x s.2)

claims_pass : (asked : List ClaimMatcher) (claims : FulcioCiClaims) → HasClaims asked claims → claims_judged asked claims ≡ Ok tt
claims_pass [] claims c = refl
claims_pass (one ∷ others) claims c =
    ap (λ r. r >>= λ _. claims_judged others claims) (claim_passes one claims c.0) ∙ claims_pass others claims c.1

pub names_mean : (policy : VerificationPolicy) (info : CertificateInfo) (x : ⊤) → names_judged policy info ≡ Ok x
    → HasIdentity policy.identity info.identity × (HasIssuer policy.issuer info.issuer × HasClaims policy.claims info.ci_claims)
names_mean policy info x h =
    let s = step_ok (identity_judged policy.identity info.identity) (λ _. issuer_judged policy.issuer info.issuer >>= λ _. claims_judged policy.claims info.ci_claims) x h in
    let r = step_ok (issuer_judged policy.issuer info.issuer) (λ _. claims_judged policy.claims info.ci_claims) x s.2 in
    (identity_means policy.identity info.identity s.0 s.1, (issuer_means policy.issuer info.issuer r.0 r.1, claims_mean policy.claims info.ci_claims x r.2))

pub names_pass : (policy : VerificationPolicy) (info : CertificateInfo) → HasIdentity policy.identity info.identity → HasIssuer policy.issuer info.issuer
    → HasClaims policy.claims info.ci_claims → names_judged policy info ≡ Ok tt
names_pass policy info identity issuer claims =
    ap (λ r. r >>= λ _. issuer_judged policy.issuer info.issuer >>= λ _. claims_judged policy.claims info.ci_claims)
    (identity_passes policy.identity info.identity identity)
    ∙ ap (λ r. r >>= λ _. claims_judged policy.claims info.ci_claims) (issuer_passes policy.issuer info.issuer issuer)
    ∙ claims_pass policy.claims info.ci_claims claims
