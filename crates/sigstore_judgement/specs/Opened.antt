-- A content that was opened, as the content that it is.
use Rattle.sigstore_types.specs.declared.content.SignatureContent.{SignatureContent}
use Rattle.sigstore_types.specs.declared.content.SignatureContent.TheVariants.{MessageSignature as OfMessage, DsseEnvelope as OfEnvelope}
use Rattle.sigstore_judgement.specs.declared.content.Opened.{Opened}
use Rattle.sigstore_judgement.specs.declared.content.Opened.TheVariants as opened

abbrev pub content_as : Opened → SignatureContent
content_as (opened.Message message) = OfMessage message.now
content_as (opened.Envelope envelope) = OfEnvelope envelope
