-- Requests of a time stamp (RFC 3161, 2.4.1).
use Rattle.std.specs.Prelude.{ℕ, List, true, Some, None, nat_lt, length, Ok, Err, if◌then◌else◌}
use Rattle.foundation.specs.Steps.{◌>>=◌}
use Rattle.der_grammar.specs.declared.error.DerError.TheVariants.{TooLong}
use Rattle.der_numbers.specs.Numbers.{contents_of}
use Rattle.sigstore_types_parts.specs.declared.hash_algorithm.HashAlgorithm.{HashAlgorithm}
use Rattle.sigstore_tsa_parts.specs.declared.algorithm.AlgorithmIdentifier.{AlgorithmIdentifier}
use Rattle.sigstore_tsa_parts.specs.declared.error.Error.TheVariants.{Asn1}
use Rattle.sigstore_tsa_parts.specs.declared.imprint.Asn1MessageImprint.{Asn1MessageImprint}
use Rattle.sigstore_tsa_parts.specs.declared.request.TimeStampReq.{TimeStampReq}
use Rattle.sigstore_tsa_parts.specs.Error.{Judged}
use Rattle.sigstore_tsa_parts.specs.Identifiers.{identifier_of}

-- an imprint, or TooLong where a digest of such a length isn't written
abbrev pub imprint_of : AlgorithmIdentifier → List ℕ → Judged Asn1MessageImprint
imprint_of algorithm digest =
    if nat_lt (length digest) 268435456 then Ok (record { hash_algorithm = algorithm; hashed_message = digest }) else Err (Asn1 TooLong)

-- version 1, no policy, a nonce, and the certificate asked for
abbrev pub request_of : Asn1MessageImprint → ℕ → TimeStampReq
request_of imprint nonce = record {
  version = 1;
  message_imprint = imprint;
  req_policy = None;
  nonce = Some (contents_of nonce);
  cert_req = true;
}

-- of a digest
unfoldable pub timestamp_request_of : HashAlgorithm × List ℕ → ℕ → Judged TimeStampReq
timestamp_request_of digest nonce = do
  algorithm ← identifier_of digest.0
  imprint ← imprint_of algorithm digest.1
  Ok (request_of imprint nonce)
