-- The table of what is compared, by what was signed and the kind of the entry (Rekor, "pluggable types").
use Rattle.std.specs.Prelude.{ℕ, ℤ, List, [], ◌∷◌, Bool, true, false, Option, Some, Result, Ok, Err, ok_or, option_copied}
use Rattle.std.specs.Result.{result_ok}
use Rattle.base64.specs.Engines.{standard}
use Rattle.base64.specs.GeneralPurpose.{decode_of}
use Rattle.hex.specs.Hex as hex
use Rattle.sha2.specs.Sha256.{sha256}
use Rattle.sigstore_types_parts.specs.HashAlgorithm.{same_algorithm}
use Rattle.sigstore_types_parts.specs.Encoded.{sized_of, hex_of}
use Rattle.sigstore_types_parts.specs.Error.{types_of}
use Rattle.sigstore_types_parts.specs.Instant.{at_second}
use Rattle.sigstore_types_parts.specs.TimeRange.{contains}
use Rattle.sigstore_types_parts.specs.declared.error.TypesError.{TypesError}
use Rattle.sigstore_types_parts.specs.declared.hash_algorithm.HashAlgorithm.{HashAlgorithm}
use Rattle.sigstore_types_parts.specs.declared.hash_algorithm.HashAlgorithm.TheVariants.{Sha2256}
use Rattle.sigstore_entries.specs.declared.kind_version.KindVersion.{KindVersion}
use Rattle.sigstore_entries.specs.declared.kind_version.KindVersion.TheVariants as kind
use Rattle.sigstore_envelopes.specs.declared.envelope.DsseEnvelope.{DsseEnvelope}
use Rattle.sigstore_envelopes.specs.Encoding.{encoding_of}
use Rattle.sigstore_rekor_parts.specs.declared.body.RekorEntryBody.{RekorEntryBody}
use Rattle.sigstore_rekor_parts.specs.declared.body.RekorEntryBody.TheVariants as body
use Rattle.sigstore_rekor_parts.specs.declared.hashed_rekord_v001.HashedRekordV001Body.{HashedRekordV001Body}
use Rattle.sigstore_rekor_parts.specs.declared.hashed_rekord_v002.HashedRekordV002Body.{HashedRekordV002Body}
use Rattle.sigstore_rekor_parts.specs.declared.dsse_v001.DsseV001Body.{DsseV001Body}
use Rattle.sigstore_rekor_parts.specs.declared.dsse_v001.DsseV001Signature.{DsseV001Signature}
use Rattle.sigstore_rekor_parts.specs.declared.intoto_v002.IntotoV002Body.{IntotoV002Body}
use Rattle.sigstore_rekor_parts.specs.declared.intoto_v002.IntotoSignature.{IntotoSignature}
use Rattle.sigstore_binding.specs.declared.error.BindingError.{BindingError}
use Rattle.sigstore_binding.specs.declared.error.BindingError.TheVariants.{Unsupported, MalformedEntry, ArtifactMismatch}
use Rattle.sigstore_binding.specs.declared.error.BindingError.TheVariants.{EntryMismatch, IntegratedTime}
use Rattle.sigstore_binding.specs.declared.signed.Signed.{Signed as Given}
use Rattle.sigstore_binding.specs.declared.signed.Signed.TheVariants as given
use Rattle.sigstore_binding.specs.Checks.{Check, Same, Holds}
use Rattle.sigstore_binding.specs.Verifier.{Readings, Signatory, Certificate, armored_check, raw_check, certified_check, enveloped_check}

-- What was signed: a message, of which the SHA-256 value is told where it can be had, with its signature; or an envelope.
pub data Signed : Type 0 where
  Message : Option (List ℕ) → List ℕ → Signed
  Envelope : DsseEnvelope → Signed

-- what the code says it was
abbrev pub signed_as : Given → Signed
signed_as (given.Message digest signature) = Message (option_copied digest) signature.now
signed_as (given.Envelope envelope) = Envelope envelope.now

-- ---- what an entry logged, as far as it is compared

abbrev pub or_unread : Result (List ℕ) TypesError → Result (List ℕ) BindingError
or_unread (Ok bytes) = Ok bytes
or_unread (Err e) = Err MalformedEntry

-- a SHA-256 value in hexadecimal
abbrev pub hex_sha256_of : List ℕ → Result (List ℕ) BindingError
hex_sha256_of text = or_unread (hex_of 32 text)

-- one in octets
abbrev pub sha256_in : List ℕ → Result (List ℕ) BindingError
sha256_in digest = or_unread (sized_of types_of 32 digest)

-- octets in hexadecimal
abbrev pub hex_bytes_of : List ℕ → Result (List ℕ) BindingError
hex_bytes_of text = ok_or (result_ok (hex.decode_of text)) MalformedEntry

-- octets that were written in base64 once more
abbrev pub twice_of : List ℕ → Result (List ℕ) BindingError
twice_of text = ok_or (result_ok (decode_of standard text)) MalformedEntry

-- the one signature (else a bundle with one would be taken for an envelope that several signed)
abbrev pub sole : {A : Type 0} → List A → Result A BindingError
sole [] = Err EntryMismatch
sole (x ∷ []) = Ok x
sole (x ∷ y ∷ more) = Err EntryMismatch

-- a check of the one signature; of another number of them each fails
abbrev pub of_sole : {A : Type 0} → (A → Check) → Result A BindingError → Check
of_sole check (Ok x) = check x
of_sole check (Err e) = Holds false e

-- a certificate's window has the time, where the entry has one: its two ends belong to it; a key has no window
abbrev pub is_within : Signatory → Option ℤ → Bool
is_within (Certificate certificate key validity) (Some second) = contains validity (at_second second)
is_within who time = true

-- ---- what is compared in each kind

-- the digest is by SHA-256 (else another algorithm's value would be taken for one)
abbrev pub by_sha256 : HashAlgorithm → Check
by_sha256 algorithm = Holds (same_algorithm algorithm Sha2256) Unsupported

-- a signature is this one (else an entry of another signature by the same key would count as this one's)
abbrev pub signature_check : List ℕ → List ℕ → Check
signature_check logged signature = Same (Ok logged) (Some signature) EntryMismatch

-- it was logged within the certificate's window (else an entry could be logged after the certificate ended, by whoever found its key then)
abbrev pub window_check : Signatory → Option ℤ → Check
window_check who time = Holds (is_within who time) IntegratedTime

-- what is signed, by its SHA-256 value; whose algorithm the entry names isn't looked at. Behind it the time at which it was logged, whether
-- it's promised or not
abbrev pub hashed_rekord_v001 : Readings → Signatory → Option (List ℕ) → List ℕ → Option ℤ → HashedRekordV001Body → List Check
hashed_rekord_v001 readings who digest signature time body =
    Same (hex_sha256_of body.spec.data_.hash.value) digest ArtifactMismatch
    ∷ armored_check readings who body.spec.signature.public_key.content
    ∷ signature_check body.spec.signature.content signature
    ∷ window_check who time
    ∷ []

abbrev pub hashed_rekord_v002 : Signatory → Option (List ℕ) → List ℕ → HashedRekordV002Body → List Check
hashed_rekord_v002 who digest signature body =
    let logged = body.spec.hashed_rekord_v002 in
    by_sha256 logged.data_.algorithm
    ∷ Same (sha256_in logged.data_.digest) digest ArtifactMismatch
    ∷ raw_check who logged.signature.verifier
    ∷ signature_check logged.signature.content signature
    ∷ []

-- an envelope by its payload, whose digest is a text in lower case; the digest of the whole envelope's text isn't compared, since that text
-- isn't kept
abbrev pub dsse_v001 : Readings → Signatory → DsseEnvelope → DsseV001Body → List Check
dsse_v001 readings who envelope body =
    let one = sole body.spec.signatures in
    by_sha256 body.spec.payload_hash.algorithm
    ∷ Same (Ok body.spec.payload_hash.value) (Some (hex.encode_lower (sha256 envelope.payload))) EntryMismatch
    ∷ of_sole (λ (s : DsseV001Signature). signature_check s.signature envelope.signature.sig) one
    ∷ of_sole (λ (s : DsseV001Signature). enveloped_check readings who s.verifier) one
    ∷ []

abbrev pub intoto_v002 : Readings → Signatory → DsseEnvelope → IntotoV002Body → List Check
intoto_v002 readings who envelope body =
    let logged = body.spec.content in
    let one = sole logged.envelope.signatures in
    by_sha256 logged.payload_hash.algorithm
    ∷ Same (hex_bytes_of logged.payload_hash.value) (Some (sha256 envelope.payload)) EntryMismatch
    ∷ Same (Ok logged.envelope.payload_type) (Some envelope.payload_type) EntryMismatch
    ∷ of_sole (λ (s : IntotoSignature). Same (twice_of s.sig) (Some envelope.signature.sig) EntryMismatch) one
    ∷ of_sole (λ (s : IntotoSignature). certified_check readings who s.public_key) one
    ∷ []

-- ---- the table

-- which kinds of entries there are for what was signed
abbrev pub has_row : Signed → KindVersion → Bool
has_row (Message digest signature) kind.HashedRekordV001 = true
has_row (Message digest signature) kind.HashedRekordV002 = true
has_row (Envelope envelope) kind.HashedRekordV002 = true
has_row (Envelope envelope) kind.DsseV001 = true
has_row (Envelope envelope) kind.IntotoV002 = true
has_row signed other = false

-- what is compared of a body, and of the time at which it was logged
abbrev pub row_of : Readings → Signatory → Signed → Option ℤ → RekorEntryBody → List Check
row_of readings who (Message digest signature) time (body.HashedRekordV001 b) = hashed_rekord_v001 readings who digest signature time b
row_of readings who (Message digest signature) time (body.HashedRekordV002 b) = hashed_rekord_v002 who digest signature b
row_of readings who (Envelope e) time (body.HashedRekordV002 b) = hashed_rekord_v002 who (Some (sha256 (encoding_of e))) e.signature.sig b
row_of readings who (Envelope e) time (body.DsseV001 b) = dsse_v001 readings who e b
row_of readings who (Envelope e) time (body.IntotoV002 b) = intoto_v002 readings who e b
row_of readings who signed time other = Holds false Unsupported ∷ []
