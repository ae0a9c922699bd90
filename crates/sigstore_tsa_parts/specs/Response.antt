-- Whether a response answers a request (RFC 3161, 2.4.2: what the requester verifies).
use Rattle.std.specs.Prelude.{ℕ, ◌==◌, List, Bool, true, false, bytes_eq, ⊤, Option, Some, None, Result, Ok, Err, if◌then◌else◌}
use Rattle.foundation.specs.Steps.{◌>>=◌}
use Rattle.sigstore_tsa_parts.specs.declared.error.Error.TheVariants.{InvalidResponse}
use Rattle.sigstore_tsa_parts.specs.declared.error.ResponseFault.{ResponseFault}
use Rattle.sigstore_tsa_parts.specs.declared.error.ResponseFault.TheVariants.{Algorithm, Imprint, Nonce}
use Rattle.sigstore_tsa_parts.specs.declared.request.TimeStampReq.{TimeStampReq}
use Rattle.sigstore_tsa_parts.specs.declared.response.PkiStatus.{PkiStatus}
use Rattle.sigstore_tsa_parts.specs.declared.response.PkiStatus.TheVariants.{Granted, GrantedWithMods, Rejection, Waiting}
use Rattle.sigstore_tsa_parts.specs.declared.response.PkiStatus.TheVariants.{RevocationWarning, RevocationNotification}
use Rattle.sigstore_tsa_parts.specs.declared.tst_info.TstInfo.{TstInfo}
use Rattle.sigstore_tsa_parts.specs.Content.{token_content_of}
use Rattle.sigstore_tsa_parts.specs.Error.{Judged}

-- PKIStatus (2.4.2)
abbrev pub status_of : ℕ → Result PkiStatus ⊤
status_of n =
    if n == 0 then Ok Granted else
    if n == 1 then Ok GrantedWithMods else
    if n == 2 then Ok Rejection else
    if n == 3 then Ok Waiting else
    if n == 4 then Ok RevocationWarning else
    if n == 5 then Ok RevocationNotification else
    Err tt

abbrev pub answers_if : ResponseFault → Bool → Judged ⊤
answers_if fault true = Ok tt
answers_if fault false = Err (InvalidResponse fault)

-- a nonce that was sent comes back; without one nothing is asked
abbrev pub is_nonce_of : Option (List ℕ) → Option (List ℕ) → Bool
is_nonce_of None told = true
is_nonce_of (Some nonce) None = false
is_nonce_of (Some nonce) (Some told) = bytes_eq nonce told

-- The digest is by the algorithm that was asked for, whatever the parameters are, and it is the digest that was sent (else another message
-- would be stamped); and the nonce is the request's (else an older answer could be handed out again).
unfoldable pub answers : TimeStampReq → TstInfo → Judged ⊤
answers request info = do
  _ ← answers_if Algorithm
      (bytes_eq request.message_imprint.hash_algorithm.algorithm info.message_imprint.hash_algorithm.algorithm)
  _ ← answers_if Imprint (bytes_eq request.message_imprint.hashed_message info.message_imprint.hashed_message)
  answers_if Nonce (is_nonce_of request.nonce info.nonce)

-- the response's own bytes, where it answers the request
unfoldable pub response_judged_of : TimeStampReq → List ℕ → Judged (List ℕ)
response_judged_of request response = do
  content ← token_content_of response
  _ ← answers request content.info
  Ok response
