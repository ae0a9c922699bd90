-- The signer of a token under an authority's certificate (RFC 5652, 5.3, 5.4 and 5.6; RFC 3161, 2.4.2).
use Rattle.std.specs.Prelude.{ℕ, List, [], ◌∷◌, Bool, false, ◌&&◌, bytes_eq, ⊤, Option, Some, None, Result, Ok, Err, if◌then◌else◌}
use Rattle.foundation.specs.Steps.{◌>>=◌}
use Rattle.der_grammar.specs.Grammar.{write}
use Rattle.der_grammar.specs.Octets.{octet_string_type}
use Rattle.der_grammar.specs.Outcome.{Outcome}
use Rattle.der_grammar.specs.Types.{set_of_type}
use Rattle.spki_core.specs.Reading.{Reading}
use Rattle.x509_core.specs.declared.attribute.Attribute.{Attribute}
use Rattle.x509_core.specs.Kinds.{name_type, subject_key_identifier_type}
use Rattle.x509_core.specs.Types.{attribute_type}
use Rattle.x509_views.specs.Certificates.{Certificate, certificate_of}
use Rattle.x509_views.specs.Extensions.{Found, found_in}
use Rattle.cms_parts.specs.declared.signed_data.SignerIdentifier.{SignerIdentifier}
use Rattle.cms_parts.specs.declared.signed_data.SignerIdentifier.TheVariants.{IssuerAndSerialNumber, SubjectKeyIdentifier}
use Rattle.cms_parts.specs.declared.signed_data.SignerInfo.{SignerInfo}
use Rattle.cms_parts.specs.Identifiers.{message_digest_oid}
use Rattle.sigstore_types_parts.specs.declared.hash_algorithm.HashAlgorithm.{HashAlgorithm}
use Rattle.sigstore_keys.specs.declared.error.Error.{Error as CryptoError}
use Rattle.sigstore_keys.specs.declared.key.VerificationKey.{VerificationKey}
use Rattle.sigstore_keys.specs.declared.scheme.KeyAlgorithm.{KeyAlgorithm}
use Rattle.sigstore_keys.specs.declared.scheme.KeyAlgorithm.TheVariants as sort
use Rattle.sigstore_keys.specs.Digest.{digest_by}
use Rattle.sigstore_keys.specs.Good.{Judge, is_good}
use Rattle.sigstore_keys.specs.Key.{spki_key_under}
use Rattle.sigstore_keys.specs.KeyAlgorithm.{algorithm_of_spki}
use Rattle.sigstore_keys.specs.Scheme.{resolved_of}
use Rattle.sigstore_tsa_parts.specs.declared.error.Error.TheVariants.{SignatureVerificationError}
use Rattle.sigstore_tsa_parts.specs.declared.error.ParseRule.TheVariants as parse
use Rattle.sigstore_tsa_parts.specs.declared.error.SignatureRule.{SignatureRule}
use Rattle.sigstore_tsa_parts.specs.declared.error.SignatureRule.TheVariants as rule
use Rattle.sigstore_tsa_parts.specs.Content.{value_in}
use Rattle.sigstore_tsa_parts.specs.Error.{Judged}
use Rattle.sigstore_tsa.specs.Stamp.{known, same_digest}

-- a step of a signer's, under the rule that asks for it
abbrev pub or_rule : {A E : Type 0} → SignatureRule → Result A E → Judged A
or_rule which (Ok a) = Ok a
or_rule which (Err e) = Err (SignatureVerificationError which)

abbrev pub some_or_rule : {A : Type 0} → SignatureRule → Option A → Judged A
some_or_rule which (Some a) = Ok a
some_or_rule which None = Err (SignatureVerificationError which)

abbrev pub check : SignatureRule → Bool → Judged ⊤
check which passes = if passes then Ok tt else Err (SignatureVerificationError which)

-- ---- whom the token names

-- the first of the signers in order (RFC 3161 lets only the authority sign; a later one is passed over)
abbrev pub first_signer : List SignerInfo → Judged SignerInfo
first_signer [] = Err (SignatureVerificationError rule.NoSigner)
first_signer (signer ∷ others) = Ok signer

-- octets are what a value is written as
abbrev pub is_written : Outcome (List ℕ) → List ℕ → Bool
is_written (Ok encoding) octets = bytes_eq encoding octets
is_written (Err e) octets = false

abbrev pub has_identifier : List ℕ → Option Found → Bool
has_identifier id None = false
has_identifier id (Some found) = is_written (write subject_key_identifier_type.grammar id) found.extension.value

-- the certificate has the issuer and the serial number, or the key identifier (id-ce-subjectKeyIdentifier, 2.5.29.14) (RFC 5652, 5.3)
abbrev pub is_named : SignerIdentifier → Certificate → Bool
is_named (IssuerAndSerialNumber id) leaf =
    is_written (write name_type.grammar id.issuer) leaf.signed.front.issuer && bytes_eq id.serial_number leaf.signed.front.serial
is_named (SubjectKeyIdentifier id) leaf = has_identifier id (found_in (0x55 ∷ 0x1d ∷ 0x0e ∷ []) leaf.signed.tail.extensions)

abbrev pub leaf_read : Reading Certificate → Judged Certificate
leaf_read reading = or_rule rule.Certificate reading

-- The signer, and the authority's own certificate that it names: never one that the token brings, since anybody whom the root ever
-- certified could stamp then.
unfoldable pub named_of : List SignerInfo → List ℕ → Judged (SignerInfo × Certificate)
named_of signers leaf = do
  signer ← first_signer signers
  certificate ← leaf_read (certificate_of leaf)
  _ ← check rule.SignerIdentifier (is_named signer.sid certificate)
  Ok (signer, certificate)

-- ---- what the signer signed

-- the attribute of a type, where it stands once
abbrev pub only_from : List ℕ → Option Attribute → List Attribute → Option Attribute
only_from oid found [] = found
only_from oid None (attribute ∷ attributes) =
    if bytes_eq attribute.oid oid then only_from oid (Some attribute) attributes else only_from oid None attributes
only_from oid (Some found) (attribute ∷ attributes) =
    if bytes_eq attribute.oid oid then None else only_from oid (Some found) attributes

abbrev pub only_value : List (ℕ × List ℕ) → Option (ℕ × List ℕ)
only_value [] = None
only_value (value ∷ []) = Some value
only_value (value ∷ other ∷ values) = None

abbrev pub digest_in : Option (ℕ × List ℕ) → Judged (List ℕ)
digest_in None = Err (SignatureVerificationError rule.MessageDigest)
digest_in (Some value) = or_rule rule.MessageDigest (value_in octet_string_type.grammar value)

abbrev pub values_in : Option Attribute → List (ℕ × List ℕ)
values_in None = []
values_in (Some attribute) = attribute.values

-- the digest that the attributes tell: exactly one attribute of that type, with exactly one value, an OCTET STRING (RFC 5652, 11.2);
-- of two, either could be meant
unfoldable pub digest_told_of : List Attribute → Judged (List ℕ)
digest_told_of attributes = digest_in (only_value (values_in (only_from message_digest_oid None attributes)))

-- ---- the key and the signature

abbrev pub of_curve : KeyAlgorithm → Judged KeyAlgorithm
of_curve sort.EcdsaP256 = Ok sort.EcdsaP256
of_curve sort.EcdsaP384 = Ok sort.EcdsaP384
of_curve other = Err (SignatureVerificationError rule.Key)

abbrev pub curve_read : Result KeyAlgorithm CryptoError → Judged KeyAlgorithm
curve_read (Ok algorithm) = of_curve algorithm
curve_read (Err e) = Err (SignatureVerificationError rule.Key)

-- the certificate's key, which is one of ECDSA, under its scheme with the signer's digest
unfoldable pub key_of : List ℕ → HashAlgorithm → Judged VerificationKey
key_of spki digest = do
  algorithm ← curve_read (algorithm_of_spki spki)
  scheme ← or_rule rule.Scheme (resolved_of algorithm digest)
  or_rule rule.Key (spki_key_under scheme spki)

-- the signature is over the attributes as a SET OF in order (RFC 5652, 5.4)
abbrev pub is_signed_over : Judge → VerificationKey → Outcome (List ℕ) → List ℕ → Bool
is_signed_over accepts key (Ok message) signature = is_good accepts key message signature
is_signed_over accepts key (Err e) signature = false

abbrev pub is_signed : Judge → VerificationKey → List Attribute → List ℕ → Bool
is_signed accepts key attributes signature = is_signed_over accepts key (write (set_of_type attribute_type).grammar attributes) signature

-- What the signer signed are the attributes, and they tell the content's digest (else the content could be changed under a good
-- signature); the signature is good under the certificate's key.
unfoldable pub signed_of : Judge → List ℕ → SignerInfo → List ℕ → Judged ⊤
signed_of accepts octets signer spki = do
  attributes ← some_or_rule rule.SignedAttributes signer.signed_attrs
  told ← digest_told_of attributes
  digest ← known parse.SignerAlgorithm signer.digest_alg.oid
  _ ← same_digest told (digest_by digest octets)
  key ← key_of spki digest
  check rule.Signature (is_signed accepts key attributes signer.signature)
