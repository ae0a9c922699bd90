-- What is signed, and the signature (RFC 5652, 5.3 to 5.6).
use Rattle.std.specs.Prelude.{ℕ, ◌==◌, ◌&&◌, List, [], ◌∷◌, ◌++◌, Bool, true, false, Option, Some, None, Ok, Err, if◌then◌else◌}
use Rattle.std.specs.Str.{bytes_eq}
use Rattle.foundation.specs.Steps.{◌>>=◌}
use Rattle.der_grammar.specs.Grammar.{write}
use Rattle.der_grammar.specs.Sets.{set_from, set_of}
use Rattle.der_grammar.specs.Tags.{oid_tag}
use Rattle.x509_core.specs.declared.algorithm.AlgorithmIdentifierOwned.{AlgorithmIdentifierOwned}
use Rattle.x509_core.specs.declared.attribute.Attribute.{Attribute}
use Rattle.x509_core.specs.Types.{attribute_type}
use Rattle.cms_parts.specs.declared.content_info.CmsVersion.{CmsVersion}
use Rattle.cms_parts.specs.declared.content_info.CmsVersion.TheVariants.{V1, V3}
use Rattle.cms_parts.specs.declared.signed_data.EncapsulatedContentInfo.{EncapsulatedContentInfo}
use Rattle.cms_parts.specs.declared.signed_data.SignerIdentifier.{SignerIdentifier}
use Rattle.cms_parts.specs.declared.signed_data.SignerIdentifier.TheVariants.{IssuerAndSerialNumber, SubjectKeyIdentifier}
use Rattle.cms_parts.specs.declared.signed_data.SignerInfo.{SignerInfo}
use Rattle.cms_parts.specs.Identifiers.{content_type_oid}
use Rattle.cms.specs.declared.error.Error.TheVariants.{Signature, Builder}
use Rattle.cms.specs.declared.error.BuilderFault.TheVariants.{ContentType}
use Rattle.cms.specs.declared.finalize.SigningInput.{SigningInput}
use Rattle.cms.specs.Attributes.{content_type_attribute, message_digest_attribute}
use Rattle.cms.specs.Digest.{digest_of}
use Rattle.cms.specs.Error.{Made, of_der}
use Rattle.cms.specs.Parts.{Signing}

-- the one value is the identifier of this type
abbrev pub is_the_type : List ℕ → List (ℕ × List ℕ) → Bool
is_the_type content_type [] = false
is_the_type content_type (v ∷ []) = (v.0 == oid_tag) && bytes_eq v.1 content_type
is_the_type content_type (v ∷ w ∷ more) = false

-- whether a content-type attribute is there; ContentType where the first one doesn't hold this type (RFC 5652, 11.1)
abbrev pub type_among : List ℕ → List Attribute → Made Bool
type_among content_type [] = Ok false
type_among content_type (a ∷ more) =
    if bytes_eq a.oid content_type_oid then
    (if is_the_type content_type a.values then Ok true else Err (Builder ContentType))
    else type_among content_type more

-- behind the attributes the content's type, unless it is there
abbrev pub with_type : Bool → List ℕ → List Attribute → Made (List Attribute)
with_type true content_type attributes = Ok attributes
with_type false content_type attributes = of_der (content_type_attribute content_type) >>= λ a. Ok (attributes ++ a ∷ [])

-- behind the attributes the message digest, and the content's type where none is there
unfoldable pub with_digest : List ℕ → List ℕ → List Attribute → Made (List Attribute)
with_digest content_type digest attributes = do
  there ← type_among content_type attributes
  a ← of_der (message_digest_attribute digest)
  with_type there content_type (attributes ++ a ∷ [])

-- the attributes that are signed: where no digest is known, those that were added (RFC 5652, 5.3)
abbrev pub completed : List ℕ → Option (List ℕ) → List Attribute → Made (List Attribute)
completed content_type None attributes = Ok attributes
completed content_type (Some digest) attributes = with_digest content_type digest attributes

-- the attributes, their set, and what is signed: the set's encoding as a SET OF, and not under the implicit tag (RFC 5652, 5.4)
unfoldable pub encoded : List Attribute → Made SigningInput
encoded attributes = do
  members ← of_der (set_from attribute_type.grammar attributes)
  encoding ← of_der (write (set_of attribute_type.grammar) members)
  Ok (record { attributes = attributes; members = members; encoding = encoding })

unfoldable pub finalized : AlgorithmIdentifierOwned → EncapsulatedContentInfo → Option (List ℕ) → List Attribute → Made SigningInput
finalized algorithm content made added = do
  digest ← digest_of algorithm.oid content.econtent made
  attributes ← completed content.econtent_type digest added
  encoded attributes

-- version 1 for an issuer and a serial number, 3 for a key identifier (RFC 5652, 5.3)
abbrev pub version_of : SignerIdentifier → CmsVersion
version_of (IssuerAndSerialNumber name) = V1
version_of (SubjectKeyIdentifier identifier) = V3

-- the signature, or that there is none
abbrev pub signed_or : Option (List ℕ) → Made (List ℕ)
signed_or None = Err Signature
signed_or (Some signature) = Ok signature

-- a set, or None where nothing was added
abbrev pub if_added : List Attribute → Made (Option (List Attribute))
if_added [] = Ok None
if_added (a ∷ more) = of_der (set_from attribute_type.grammar (a ∷ more)) >>= λ members. Ok (Some members)

-- the same of what a builder holds
abbrev pub finalized_of : {S : Type 0} → Signing S → Made SigningInput
finalized_of b = finalized b.digest_algorithm b.content b.made b.signed

-- the signer's information (RFC 5652, 5.3 and 5.4)
unfoldable pub signed_by : {S : Type 0} → AlgorithmIdentifierOwned → (List ℕ → Option (List ℕ)) → Signing S → Made SignerInfo
signed_by algorithm signs b = do
  f ← finalized_of b
  unsigned ← if_added b.unsigned
  signature ← signed_or (signs f.encoding)
  Ok (record {
    version = version_of b.sid;
    sid = b.sid;
    digest_alg = b.digest_algorithm;
    signed_attrs = Some f.members;
    signature_algorithm = algorithm;
    signature = signature;
    unsigned_attrs = unsigned;
  })
