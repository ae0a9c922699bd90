-- When a token of an authority tells the time of a signature (RFC 3161; RFC 5652; RFC 5280).
use Rattle.std.specs.Prelude.{◌≡◌, ◌↔◌, ℕ, List, ◌∷◌, false, ⊤, Some, Ok, Err, IsTrue}
use Rattle.foundation.specs.Steps.{◌>>=◌}
use Rattle.jiff_core.specs.declared.timestamp.Timestamp.{Timestamp}
use Rattle.x509_core.specs.declared.attribute.Attribute.{Attribute}
use Rattle.x509_views.specs.Certificates.{Certificate, certificate_of}
use Rattle.cms_parts.specs.declared.signed_data.SignerInfo.{SignerInfo}
use Rattle.sigstore_types_parts.specs.declared.hash_algorithm.HashAlgorithm.{HashAlgorithm}
use Rattle.sigstore_types_parts.specs.TimeRange.{contains}
use Rattle.sigstore_types.specs.declared.authority.TsaAuthority.{TsaAuthority}
use Rattle.sigstore_keys.specs.declared.key.VerificationKey.{VerificationKey}
use Rattle.sigstore_keys.specs.Digest.{digest_by}
use Rattle.sigstore_keys.specs.Good.{Judge}
use Rattle.sigstore_keys.specs.Keyring.{is_used_at}
use Rattle.path_core.specs.declared.route.FoundPath.{FoundPath}
use Rattle.path_core.specs.Anchors.{may_anchor, is_since_1970}
use Rattle.path_core.specs.Paths.{IsFound}
use Rattle.path_core.specs.Traits.{window_of}
use Rattle.sigstore_tsa_parts.specs.declared.content.TokenContent.{TokenContent}
use Rattle.sigstore_tsa_parts.specs.declared.error.Error.TheVariants.{TimestampOutsideValidity}
use Rattle.sigstore_tsa_parts.specs.Content.{token_content_of}
use Rattle.sigstore_tsa_parts.specs.Error.{Judged}
use Rattle.sigstore_tsa_parts.specs.Identifiers.{digest_named}
use Rattle.sigstore_tsa.specs.declared.stamp.Stamp.{Stamp}
use Rattle.sigstore_tsa.specs.Signer.{named_of, is_named, digest_told_of, key_of, is_signed, signed_of}
use Rattle.sigstore_tsa.specs.Stamp.{stamp_of, time_of}
use Rattle.sigstore_tsa.specs.Vouched.{setting_of, vouched_of}

-- what was read of a token, under an authority: the signer, the signature, and the certificates
unfoldable pub under_of : Judge → Stamp → TsaAuthority → Judged ⊤
under_of accepts stamp authority = do
  named ← named_of stamp.signers authority.leaf
  _ ← signed_of accepts stamp.octets named.0 named.1.signed.middle.spki
  vouched_of accepts authority named.1 stamp.time

-- the time of a signature by a token of an authority, or the first check that fails
unfoldable pub stamped_of : Judge → List ℕ → List ℕ → TsaAuthority → Judged Timestamp
stamped_of accepts token signature authority = do
  stamp ← stamp_of token signature
  _ ← under_of accepts stamp authority
  Ok stamp.time

-- ---- told without any order of checks

-- the imprint is the signature's, and the time isn't before 1970
pub record Tells (content : TokenContent) (signature : List ℕ) (time : Timestamp) : Type 0 where
  pub algorithm : HashAlgorithm
  pub algorithm_is : digest_named content.info.message_imprint.hash_algorithm.algorithm ≡ Some algorithm
  pub imprint : content.info.message_imprint.hashed_message ≡ digest_by algorithm signature
  pub time_is : time ≡ time_of content.info.gen_time
  pub since : IsTrue (is_since_1970 time)

-- the signer's attributes tell the content's digest, and the signature over them is good under the certificate's key
pub record Signs (accepts : Judge) (octets : List ℕ) (signer : SignerInfo) (leaf : Certificate) : Type 0 where
  pub attributes : List Attribute
  pub attributes_are : signer.signed_attrs ≡ Some attributes
  pub digest : HashAlgorithm
  pub digest_is : digest_named signer.digest_alg.oid ≡ Some digest
  pub told : digest_told_of attributes ≡ Ok (digest_by digest octets)
  pub key : VerificationKey
  pub key_is : key_of leaf.signed.middle.spki digest ≡ Ok key
  pub good : IsTrue (is_signed accepts key attributes signer.signature)

-- there is a path for time stamping from the authority's leaf to its root at the time, and the leaf's validity has it
pub record Certifies (accepts : Judge) (authority : TsaAuthority) (leaf : Certificate) (time : Timestamp) : Type 0 where
  pub root : may_anchor authority.root ≡ Ok tt
  pub path : FoundPath
  pub found : IsFound (setting_of accepts authority time) path
  pub validity : IsTrue (contains (window_of leaf) time)

-- The token is read; its imprint is the signature's and its time is this; the first signer names the authority's certificate and
-- signed; and the authority's certificates vouch for that. All that is left is the authority's window.
pub record IsOf (accepts : Judge) (token signature : List ℕ) (authority : TsaAuthority) (time : Timestamp) : Type 0 where
  pub content : TokenContent
  pub read : token_content_of token ≡ Ok content
  pub tells : Tells content signature time
  pub signer : SignerInfo
  pub others : List SignerInfo
  pub first : content.signers ≡ signer ∷ others
  pub leaf : Certificate
  pub leaf_is : certificate_of authority.leaf ≡ Ok leaf
  pub named : IsTrue (is_named signer.sid leaf)
  pub signs : Signs accepts content.octets signer leaf
  pub certifies : Certifies accepts authority leaf time

-- and the window has the time
pub record Stamped (accepts : Judge) (token signature : List ℕ) (authority : TsaAuthority) (time : Timestamp) : Type 0 where
  pub is : IsOf accepts token signature authority time
  pub window : IsTrue (is_used_at time authority.valid_for)

-- the token is the authority's, and the window alone hasn't the time
pub record IsOutside (accepts : Judge) (token signature : List ℕ) (authority : TsaAuthority) (time : Timestamp) : Type 0 where
  pub is : IsOf accepts token signature authority time
  pub window : is_used_at time authority.valid_for ≡ false

-- the judgement gives a time exactly where the token is stamped then, and it refuses by the window exactly where this alone hasn't the time
abbrev pub StampedExactly : Type 0
StampedExactly = (accepts : Judge) (token signature : List ℕ) (authority : TsaAuthority) (time : Timestamp)
    → (stamped_of accepts token signature authority ≡ Ok time) ↔ Stamped accepts token signature authority time

abbrev pub OutsideExactly : Type 0
OutsideExactly = (accepts : Judge) (token signature : List ℕ) (authority : TsaAuthority) (time : Timestamp)
    → (stamped_of accepts token signature authority ≡ Err (TimestampOutsideValidity time)) ↔ IsOutside accepts token signature authority time
