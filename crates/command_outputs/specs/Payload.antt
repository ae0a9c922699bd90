-- The payload of a bundle: the octets that the signature of an envelope covers, with their type, in the pre-authentication encoding (DSSE,
-- protocol.md). In a Sigstore attestation they are an in-toto statement.
use Rattle.std.specs.Prelude.{ℕ, List, Option, Some, None, Result, Ok}
use Rattle.foundation.specs.Steps.{◌>>=◌}
use Rattle.sigstore_types_parts.specs.declared.error.TypesError.{TypesError}
use Rattle.sigstore_types.specs.Bundle.{bundle_of_bytes}
use Rattle.sigstore_types.specs.declared.content.SignatureContent.{SignatureContent}
use Rattle.sigstore_types.specs.declared.content.SignatureContent.TheVariants.{MessageSignature, DsseEnvelope}

-- that of an envelope, as decoded from base64; a message signature is over the artifact's digest, and has none
abbrev pub payload_in : SignatureContent → Option (List ℕ)
payload_in (MessageSignature message) = None
payload_in (DsseEnvelope envelope) = Some envelope.payload

-- that of a bundle's bytes
unfoldable pub payload_of : List ℕ → Result (Option (List ℕ)) TypesError
payload_of bytes = bundle_of_bytes bytes >>= λ bundle. Ok (payload_in bundle.content)
