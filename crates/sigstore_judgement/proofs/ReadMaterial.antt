-- A bundle that was read has a public key or a certificate that signed: a chain isn't read without one.
use Rattle.std.proofs.Common.{◌≡◌, ℕ, List, [], ◌∷◌, Option, Some, None, Result, Ok, Err, refl, sym, ap, subst, ◌∙◌}
use Rattle.foundation.specs.Results.{step_ok, ok_same, no_both, err_same}
use Rattle.sigstore_types_parts.specs.declared.member.TypesMember.TheVariants as m
use Rattle.sigstore_entries.specs.Entry.{json, required, optional, list, entry_of}
use Rattle.sigstore_entries.proofs.Found.{WasRead, required_was, WereRead, optional_was}
use Rattle.sigstore_types.specs.declared.bundle.Bundle.{Bundle}
use Rattle.sigstore_types.specs.declared.material.VerificationMaterial.{VerificationMaterial}
use Rattle.sigstore_types.specs.declared.material.VerificationMaterialContent.{VerificationMaterialContent}
use Rattle.sigstore_types.specs.declared.material.VerificationMaterialContent.TheVariants as material
use Rattle.sigstore_types.specs.Bundle.{media_type_of, hint_of, certificate_of, some_of, signing_chain_of, one_material_of, material_content_of, tokens_of, material_of, content_of}
use Rattle.sigstore_types.specs.Bundle.{bundle_of, bundle_of_bytes, signing_certificate_of}
use Rattle.sigstore_types.specs.TrustedRoot.{chain_of}
use Rattle.sigstore_judgement.specs.declared.error.Error.{Error}
use Rattle.sigstore_judgement.specs.declared.error.Error.TheVariants as verify
use Rattle.sigstore_judgement.specs.Signer.{material_in, certificate_in, keyed_of}

never_none : (list v : List (List ℕ)) → some_of list ≡ Ok v → v ≡ [] → ⊥
never_none [] v h none = cc
never_none (certificate ∷ behind) v h none = cc

never_empty : (made : _) → WasRead signing_chain_of made → made.certificates ≡ [] → ⊥
unfolding signing_chain_of
never_empty made h none =
    let chain = step_ok (chain_of h.from) _ made h.was in
    let certificates = step_ok (some_of chain.0.certificates) _ made chain.2 in
    never_none chain.0.certificates certificates.0 certificates.1 (ap (λ c. c.certificates) (ok_same _ made certificates.2) ∙ none)

-- a chain has a certificate
abbrev HasCertificate : VerificationMaterialContent → Type 0
HasCertificate (material.Certificate certificate) = Unit {0}
HasCertificate (material.X509CertificateChain chain) = chain ≡ [] → ⊥
HasCertificate (material.PublicKey hint) = Unit {0}

one_has : (single : Option _) (chain : Option _) (key : Option _) (v : VerificationMaterialContent)
    → WereRead signing_chain_of chain → one_material_of single chain key ≡ Ok v → HasCertificate v
one_has (Some single) None None v q h = subst HasCertificate (ok_same _ _ h) tt
one_has None (Some chain) None v q h = subst HasCertificate (ok_same _ _ h) (never_empty chain q)
one_has None None (Some key) v q h = subst HasCertificate (ok_same _ _ h) tt
one_has None None None v q h = no_both _ _ (sym h)
one_has (Some single) (Some chain) None v q h = no_both _ _ (sym h)
one_has (Some single) (Some chain) (Some key) v q h = no_both _ _ (sym h)
one_has (Some single) None (Some key) v q h = no_both _ _ (sym h)
one_has None (Some chain) (Some key) v q h = no_both _ _ (sym h)

material_has : (v : VerificationMaterial) → WasRead material_of v → HasCertificate v.content
unfolding material_of material_content_of
material_has v h =
    let content = step_ok (material_content_of h.from) _ v h.was in
    let single = step_ok (optional certificate_of m.Certificate h.from) _ content.0 content.1 in
    let chain = step_ok (optional signing_chain_of m.X509CertificateChain h.from) _ content.0 single.2 in
    let key = step_ok (optional hint_of m.PublicKey h.from) (one_material_of single.0 chain.0) content.0 chain.2 in
    let entries = step_ok (list entry_of m.TlogEntries h.from) _ v content.2 in
    let tokens = step_ok (optional tokens_of m.TimestampVerificationData h.from) _ v entries.2 in
    subst (λ (x : VerificationMaterial). HasCertificate x.content) (ok_same _ _ tokens.2)
    (one_has single.0 chain.0 key.0 content.0 (optional_was signing_chain_of m.X509CertificateChain h.from chain.0 chain.1) key.2)

bundle_has : (bytes : List ℕ) (reading : Bundle) → bundle_of_bytes bytes ≡ Ok reading → HasCertificate (material_in reading)
unfolding bundle_of_bytes bundle_of
bundle_has bytes reading h =
    let first = step_ok (json bytes) bundle_of reading h in
    let media = step_ok (media_type_of first.0) _ reading first.2 in
    let found = step_ok (required material_of m.VerificationMaterial first.0) _ reading media.2 in
    let content = step_ok (content_of first.0) _ reading found.2 in
    subst (λ (x : Bundle). HasCertificate (material_in x)) (ok_same _ _ content.2)
    (material_has found.0 (required_was material_of m.VerificationMaterial first.0 found.0 found.1))

-- ---- what isn't a public key

pub unkeyed : (content : VerificationMaterialContent) (e : Error) → keyed_of content ≡ Err e → verify.UnsupportedBundle ≡ e
unkeyed (material.PublicKey hint) e h = cc
unkeyed (material.Certificate certificate) e h = err_same verify.UnsupportedBundle e h
unkeyed (material.X509CertificateChain chain) e h = err_same verify.UnsupportedBundle e h

abbrev Signs : VerificationMaterialContent → Type 0
Signs content = (certificate : List ℕ) × (signing_certificate_of content ≡ Some certificate)

signs : (content : VerificationMaterialContent) → HasCertificate content → (e : Error) → keyed_of content ≡ Err e → Signs content
signs (material.PublicKey hint) has e h = cc
signs (material.Certificate certificate) has e h = (certificate, refl)
signs (material.X509CertificateChain []) has e h = absurd (has refl)
signs (material.X509CertificateChain (certificate ∷ behind)) has e h = (certificate, refl)

-- it has a certificate that signed
pub read_signs : (bytes : List ℕ) (reading : Bundle) → bundle_of_bytes bytes ≡ Ok reading → (e : Error) → keyed_of (material_in reading) ≡ Err e
    → (certificate : List ℕ) × (certificate_in reading ≡ Some certificate)
read_signs bytes reading read e h = signs (material_in reading) (bundle_has bytes reading read) e h
