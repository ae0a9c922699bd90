-- What builders hold.
use Rattle.std.specs.Prelude.{ℕ, List, Option}
use Rattle.x509_core.specs.declared.algorithm.AlgorithmIdentifierOwned.{AlgorithmIdentifierOwned}
use Rattle.x509_core.specs.declared.attribute.Attribute.{Attribute}
use Rattle.cms_parts.specs.declared.cert.CertificateChoices.{CertificateChoices}
use Rattle.cms_parts.specs.declared.revocation.RevocationInfoChoice.{RevocationInfoChoice}
use Rattle.cms_parts.specs.declared.signed_data.EncapsulatedContentInfo.{EncapsulatedContentInfo}
use Rattle.cms_parts.specs.declared.signed_data.SignerIdentifier.{SignerIdentifier}
use Rattle.cms_parts.specs.declared.signed_data.SignerInfo.{SignerInfo}

-- a builder of a signer's information
pub record Signing (S : Type 0) : Type 0 where
  pub signer : S
  pub sid : SignerIdentifier
  pub digest_algorithm : AlgorithmIdentifierOwned
  pub signed : List Attribute
  pub unsigned : List Attribute
  pub content : EncapsulatedContentInfo
  -- the digest that was made elsewhere
  pub made : Option (List ℕ)

-- a builder of signed data
pub record Collected : Type 0 where
  pub algorithms : List AlgorithmIdentifierOwned
  pub content : EncapsulatedContentInfo
  pub certificates : List CertificateChoices
  pub crls : List RevocationInfoChoice
  pub signers : List SignerInfo
