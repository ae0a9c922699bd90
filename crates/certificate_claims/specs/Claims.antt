-- What Fulcio's extensions claim of a certificate's identity (Fulcio, "Sigstore OID information", 1.3.6.1.4.1.57264.1).
use Rattle.std.specs.Prelude.{ℕ, List, [], ◌∷◌, bytes_eq, if◌then◌else◌, Option, Some, None, Result, Ok, Err}
use Rattle.std.specs.Str.{is_utf8}
use Rattle.der_grammar.specs.Outcome.{Outcome}
use Rattle.der_grammar.specs.Grammar.{read_all}
use Rattle.der_core.specs.Strings.{utf8_type}
use Rattle.x509_views.specs.Extensions.{OneExtension}
use Rattle.certificate_fields.specs.Fields.{value_of}
use Rattle.sigstore_keys.specs.declared.error.Error.{Error}
use Rattle.sigstore_keys.specs.declared.error.Error.TheVariants.{InvalidCertificate}
use Rattle.sigstore_keys.specs.declared.error.CertificateFault.TheVariants as fault
use Rattle.certificate_claims.specs.declared.claims.FulcioCiClaims.{FulcioCiClaims}
use Rattle.certificate_claims.specs.declared.claims.DeprecatedGitHubClaims.{DeprecatedGitHubClaims}

-- 1.3.6.1.4.1.57264.1.number, as its contents (X.690, 8.19)
abbrev pub fulcio_oid : ℕ → List ℕ
fulcio_oid number = 0x2b ∷ 0x06 ∷ 0x01 ∷ 0x04 ∷ 0x01 ∷ 0x83 ∷ 0xbf ∷ 0x30 ∷ 0x01 ∷ number ∷ []

-- the value of Fulcio's extension of that number
abbrev pub fulcio_value : ℕ → List OneExtension → Option (List ℕ)
fulcio_value number extensions = value_of (fulcio_oid number) extensions

-- ---- what a value says

abbrev pub read_or_none : Outcome (List ℕ) → Option (List ℕ)
read_or_none (Ok text) = Some text
read_or_none (Err e) = None

-- the text of a DER UTF8String
abbrev pub utf8_string_of : List ℕ → Option (List ℕ)
utf8_string_of value = read_or_none (read_all utf8_type.grammar value)

abbrev pub bare_text_of : List ℕ → Option (List ℕ)
bare_text_of value = if is_utf8 value then Some value else None

abbrev pub or_bare : Option (List ℕ) → List ℕ → Option (List ℕ)
or_bare (Some text) value = Some text
or_bare None value = bare_text_of value

-- the text of a DER UTF8String, or else the value itself where it is UTF-8
abbrev pub old_text_of : List ℕ → Option (List ℕ)
old_text_of value = or_bare (utf8_string_of value) value

-- ---- the claims

abbrev pub new_claim : Option (List ℕ) → Option (List ℕ)
new_claim None = None
new_claim (Some value) = utf8_string_of value

abbrev pub old_claim : Option (List ℕ) → Option (List ℕ)
old_claim None = None
old_claim (Some value) = old_text_of value

-- the claim of a number from 9 on
unfoldable pub claim_of : List OneExtension → ℕ → Option (List ℕ)
claim_of extensions number = new_claim (fulcio_value number extensions)

-- the claim of a number from 2 to 6
unfoldable pub old_claim_of : List OneExtension → ℕ → Option (List ℕ)
old_claim_of extensions number = old_claim (fulcio_value number extensions)

unfoldable pub old_claims_of : List OneExtension → DeprecatedGitHubClaims
old_claims_of extensions = record {
  workflow_trigger = old_claim_of extensions 2;
  workflow_sha = old_claim_of extensions 3;
  workflow_name = old_claim_of extensions 4;
  workflow_repository = old_claim_of extensions 5;
  workflow_ref = old_claim_of extensions 6;
}

unfoldable pub claims_of : List OneExtension → FulcioCiClaims
claims_of extensions = record {
  build_signer_uri = claim_of extensions 9;
  build_signer_digest = claim_of extensions 10;
  runner_environment = claim_of extensions 11;
  source_repository_uri = claim_of extensions 12;
  source_repository_digest = claim_of extensions 13;
  source_repository_ref = claim_of extensions 14;
  source_repository_identifier = claim_of extensions 15;
  source_repository_owner_uri = claim_of extensions 16;
  source_repository_owner_identifier = claim_of extensions 17;
  build_config_uri = claim_of extensions 18;
  build_config_digest = claim_of extensions 19;
  build_trigger = claim_of extensions 20;
  run_invocation_uri = claim_of extensions 21;
  source_repository_visibility_at_signing = claim_of extensions 22;
  deployment_environment = claim_of extensions 23;
  token_subject = claim_of extensions 24;
  deprecated_github = old_claims_of extensions;
}

-- ---- none of them

abbrev pub no_old_claims : DeprecatedGitHubClaims
no_old_claims = record {
  workflow_trigger = None;
  workflow_sha = None;
  workflow_name = None;
  workflow_repository = None;
  workflow_ref = None;
}

abbrev pub no_claims : FulcioCiClaims
no_claims = record {
  build_signer_uri = None;
  build_signer_digest = None;
  runner_environment = None;
  source_repository_uri = None;
  source_repository_digest = None;
  source_repository_ref = None;
  source_repository_identifier = None;
  source_repository_owner_uri = None;
  source_repository_owner_identifier = None;
  build_config_uri = None;
  build_config_digest = None;
  build_trigger = None;
  run_invocation_uri = None;
  source_repository_visibility_at_signing = None;
  deployment_environment = None;
  token_subject = None;
  deprecated_github = no_old_claims;
}

-- ---- the issuer

abbrev pub or_issuer : Option (List ℕ) → Result (Option (List ℕ)) Error
or_issuer (Some text) = Ok (Some text)
or_issuer None = Err (InvalidCertificate fault.Issuer)

-- the value of the extension .8, or else that of .1
abbrev pub issuer_in : Option (List ℕ) → Option (List ℕ) → Result (Option (List ℕ)) Error
issuer_in (Some value) old = or_issuer (utf8_string_of value)
issuer_in None (Some value) = or_issuer (old_text_of value)
issuer_in None None = Ok None

-- who issued the identity; refused where the value that counts is unreadable
unfoldable pub issuer_of : List OneExtension → Result (Option (List ℕ)) Error
issuer_of extensions = issuer_in (fulcio_value 8 extensions) (fulcio_value 1 extensions)
