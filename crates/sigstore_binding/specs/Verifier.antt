-- Who signed, as an entry logs it (its verifier), and what verifiers hold.
use Rattle.std.specs.Prelude.{ℕ, List, Option, Some, None, Result, Ok, Err}
use Rattle.spki_core.specs.declared.error.X509Error.{X509Error}
use Rattle.x509_views.specs.Certificates.{Certificate as Parts, certificate_of}
use Rattle.sigstore_types_parts.specs.declared.armor.Armor as armor
use Rattle.sigstore_types_parts.specs.declared.time_range.TimeRange.{TimeRange}
use Rattle.sigstore_rekor_parts.specs.declared.error.Error.{Error as RekorError}
use Rattle.sigstore_rekor_parts.specs.declared.hashed_rekord_v002.HashedRekordV002Verifier.{HashedRekordV002Verifier}
use Rattle.sigstore_rekor_parts.specs.declared.raw.PublicKeyRaw.{PublicKeyRaw}
use Rattle.sigstore_rekor_parts.specs.declared.raw.X509CertificateRaw.{X509CertificateRaw}
use Rattle.sigstore_rekor_parts.specs.Armored.{held_of}
use Rattle.sigstore_binding.specs.declared.error.BindingError.{BindingError}
use Rattle.sigstore_binding.specs.declared.error.BindingError.TheVariants.{EntryMismatch, MalformedEntry}
use Rattle.sigstore_binding.specs.declared.signed.SignedBy.{SignedBy}
use Rattle.sigstore_binding.specs.declared.signed.SignedBy.TheVariants as by
use Rattle.sigstore_binding.specs.Checks.{Check, Same}

-- what armoured texts hold in DER: a key (SubjectPublicKeyInfo) or a certificate (RFC 7468, sections 5 and 13)
pub record Readings : Type 0 where
  pub key_in : List ℕ → Option (List ℕ)
  pub certificate_in : List ℕ → Option (List ℕ)

-- those of an armour
abbrev pub readings_by : {M : Type 0} → armor.Ghosts M → M → Readings
readings_by ghosts a = record { key_in = ghosts.key_in a; certificate_in = ghosts.certificate_in a }

-- the holder of a key, which is told in DER (SubjectPublicKeyInfo); or the subject of a certificate, which is told in DER, behind it its
-- key (SubjectPublicKeyInfo) and its validity
pub data Signatory : Type 0 where
  Key : List ℕ → Signatory
  Certificate : List ℕ → List ℕ → TimeRange → Signatory

-- who the code says it was
abbrev pub signatory_as : SignedBy → Signatory
signatory_as (by.Key key) = Key key.now
signatory_as (by.Certificate certificate key validity) = Certificate certificate.now key.now validity.now

-- what the log's own grammar doesn't read is a malformed entry
abbrev pub or_malformed : {A : Type 0} → Result A RekorError → Result A BindingError
or_malformed (Ok x) = Ok x
or_malformed (Err e) = Err MalformedEntry

-- ---- the key that a verifier holds

-- of an armoured key
abbrev pub armored_key_of : Readings → List ℕ → Result (List ℕ) BindingError
armored_key_of readings text = or_malformed (held_of readings.key_in text)

-- of a key in DER, where the entry has one
abbrev pub raw_key_in : Option PublicKeyRaw → Result (List ℕ) BindingError
raw_key_in None = Err EntryMismatch
raw_key_in (Some key) = Ok key.raw_bytes

-- of a certificate (RFC 5280, section 4.1.2.7), as it is encoded
abbrev pub key_of_certificate : Result Parts X509Error → Result (List ℕ) BindingError
key_of_certificate (Ok certificate) = Ok certificate.signed.middle.spki
key_of_certificate (Err e) = Err MalformedEntry

abbrev pub key_or : Readings → List ℕ → Option (List ℕ) → Result (List ℕ) BindingError
key_or readings text (Some certificate) = key_of_certificate (certificate_of certificate)
key_or readings text None = armored_key_of readings text

-- of an armoured certificate, and else of an armoured key
abbrev pub certified_key_of : Readings → List ℕ → Result (List ℕ) BindingError
certified_key_of readings text = key_or readings text (readings.certificate_in text)

-- ---- the certificate that a verifier holds

-- of an armoured certificate; a text that holds none, such as an armoured key, isn't read
abbrev pub armored_certificate_of : Readings → List ℕ → Result (List ℕ) BindingError
armored_certificate_of readings text = or_malformed (held_of readings.certificate_in text)

-- of a certificate in DER, where the entry has one
abbrev pub raw_certificate_in : Option X509CertificateRaw → Result (List ℕ) BindingError
raw_certificate_in None = Err EntryMismatch
raw_certificate_in (Some certificate) = Ok certificate.raw_bytes

-- ---- what is compared with who signed (else an entry of anybody's signature over the same content would count as theirs; and where keys
-- alone were compared under a certificate, an entry of another certificate of that key, as of another identity, would)

-- an armoured certificate is this one, whole
abbrev pub certificate_check : Readings → List ℕ → List ℕ → Check
certificate_check readings certificate text = Same (armored_certificate_of readings text) (Some certificate) EntryMismatch

-- an armoured key, or that of an armoured certificate in its place, is this one
abbrev pub key_check : Readings → List ℕ → List ℕ → Check
key_check readings key text = Same (certified_key_of readings text) (Some key) EntryMismatch

-- hashedrekord 0.0.1: the armoured key is the signer's, or the armoured certificate is, whole
abbrev pub armored_check : Readings → Signatory → List ℕ → Check
armored_check readings (Key key) text = Same (armored_key_of readings text) (Some key) EntryMismatch
armored_check readings (Certificate certificate key validity) text = certificate_check readings certificate text

-- hashedrekord 0.0.2: the key in DER is, or the certificate in DER, whole
abbrev pub raw_check : Signatory → HashedRekordV002Verifier → Check
raw_check (Key key) verifier = Same (raw_key_in verifier.public_key) (Some key) EntryMismatch
raw_check (Certificate certificate key validity) verifier =
    Same (raw_certificate_in verifier.x509_certificate) (Some certificate) EntryMismatch

-- dsse: the key, or that of a certificate in its place, is; under a certificate the armoured certificate is, whole
abbrev pub enveloped_check : Readings → Signatory → List ℕ → Check
enveloped_check readings (Key key) text = key_check readings key text
enveloped_check readings (Certificate certificate key validity) text = certificate_check readings certificate text

-- intoto: the key, or that of a certificate in its place, is the signer's, or the key of the signer's certificate
abbrev pub certified_check : Readings → Signatory → List ℕ → Check
certified_check readings (Key key) text = key_check readings key text
certified_check readings (Certificate certificate key validity) text = key_check readings key text
