-- Certificates (RFC 5280, 4.1), as parts of their bytes.
use Rattle.std.specs.Prelude.{ℕ, List, [], ◌∷◌, Option, Some, None, Ok, Err, length, ◌==◌, ◌||◌, nat_le, bytes_eq, if◌then◌else◌}
use Rattle.foundation.specs.Steps.{◌>>=◌}
use Rattle.der_grammar.specs.Outcome.{Outcome}
use Rattle.der_grammar.specs.Tlv.{tlv, tlv_at}
use Rattle.der_grammar.specs.Tags.{constructed_0_tag, constructed_3_tag, generalized_time_tag, sequence_tag, utc_time_tag}
use Rattle.der_core.specs.declared.civil.Civil.{Civil}
use Rattle.der_core.specs.Times.{utc_of, generalized_of}
use Rattle.spki_core.specs.declared.error.X509Error.TheVariants.{Version, Algorithms, Time}
use Rattle.spki_core.specs.Reading.{Reading, of_der, contents_at, encoded_at, int_at, bits_at, checked, begins_with, before, at_end}
use Rattle.spki_core.specs.Spki.{algorithm_at, spki_of}
use Rattle.x509_views.specs.Extensions.{distinct_of}

-- ---- version, serial number, algorithm and issuer

-- a version that is written: 1 for the second and 2 for the third (4.1.2.1)
abbrev pub written_version : List ℕ → Reading ℕ
written_version [] = Err Version
written_version (n ∷ []) = if n == 1 || n == 2 then Ok n else Err Version
written_version (n ∷ m ∷ more) = Err Version

-- version [0] EXPLICIT Version DEFAULT v1, which is 0
unfoldable pub version_of : List ℕ → Reading ℕ
version_of contents = do
  number ← int_at contents
  version ← written_version number.0
  at_end version number.1

unfoldable pub version_at : List ℕ → Reading (ℕ × List ℕ)
version_at bytes =
    if begins_with constructed_0_tag bytes then
    (contents_at constructed_0_tag bytes >>= λ x. version_of x.0 >>= λ version. Ok (version, x.1))
    else Ok (0, bytes)

-- an INTEGER of at most 20 octets (4.1.2.2), and a sign octet
unfoldable pub serial_at : List ℕ → Reading (List ℕ × List ℕ)
serial_at bytes = int_at bytes >>= λ x. checked (nat_le (length x.0) 21) x

pub record Front : Type 0 where
  pub version : ℕ
  pub serial : List ℕ
  pub algorithm : List ℕ
  pub issuer : List ℕ

unfoldable pub front_at : List ℕ → Reading (Front × List ℕ)
front_at bytes = do
  version ← version_at bytes
  serial ← serial_at version.1
  algorithm ← algorithm_at serial.1
  issuer ← encoded_at sequence_tag algorithm.1
  Ok (record { version = version.0; serial = serial.0; algorithm = algorithm.0.encoded; issuer = issuer.0 }, issuer.1)

-- ---- validity, subject and key

abbrev pub time_or : Outcome Civil → Reading Civil
time_or (Ok c) = Ok c
time_or (Err e) = Err Time

-- Time ::= CHOICE { utcTime UTCTime, generalTime GeneralizedTime } (4.1.2.5)
abbrev pub time_of : ℕ → List ℕ → Reading Civil
time_of tag contents =
    if tag == utc_time_tag then time_or (utc_of contents) else
    if tag == generalized_time_tag then time_or (generalized_of contents) else
    Err Time

unfoldable pub time_at : List ℕ → Reading (Civil × List ℕ)
time_at bytes = of_der (tlv_at bytes) >>= λ t. time_of t.0 t.1 >>= λ c. Ok (c, t.2)

-- Validity ::= SEQUENCE { notBefore Time, notAfter Time }
unfoldable pub validity_of : List ℕ → Reading (Civil × Civil)
validity_of contents = do
  not_before ← time_at contents
  not_after ← time_at not_before.1
  at_end (not_before.0, not_after.0) not_after.1

pub record Middle : Type 0 where
  pub not_before : Civil
  pub not_after : Civil
  pub subject : List ℕ
  pub spki : List ℕ

unfoldable pub middle_at : List ℕ → Reading (Middle × List ℕ)
middle_at bytes = do
  validity ← contents_at sequence_tag bytes
  times ← validity_of validity.0
  subject ← encoded_at sequence_tag validity.1
  spki ← contents_at sequence_tag subject.1
  _ ← spki_of spki.0
  Ok (record { not_before = times.0; not_after = times.1; subject = subject.0; spki = tlv sequence_tag spki.0 }, spki.1)

-- ---- unique identifiers and extensions

-- issuerUniqueID [1] and subjectUniqueID [2] are passed over, whatever they hold (4.1.2.8)
unfoldable pub behind_identifier : ℕ → List ℕ → Reading (List ℕ)
behind_identifier tag bytes = if begins_with tag bytes then (contents_at tag bytes >>= λ x. Ok x.1) else Ok bytes

-- SEQUENCE OF Extension, as its contents, with each identifier once
unfoldable pub list_of : List ℕ → Reading (List ℕ)
list_of contents = do
  list ← contents_at sequence_tag contents
  _ ← distinct_of list.0
  at_end list.0 list.1

-- extensions [3] EXPLICIT Extensions OPTIONAL
unfoldable pub list_at : List ℕ → Reading (Option (List ℕ) × List ℕ)
list_at bytes =
    if begins_with constructed_3_tag bytes then
    (contents_at constructed_3_tag bytes >>= λ x. list_of x.0 >>= λ list. Ok (Some list, x.1))
    else Ok (None, bytes)

pub record Tail : Type 0 where
  -- the contents of the signed part before its extensions
  pub front : List ℕ
  pub extensions : Option (List ℕ)

-- the end of these contents of a signed part
unfoldable pub tail_of : List ℕ → List ℕ → Reading Tail
tail_of contents bytes = do
  rest ← behind_identifier 129 bytes
  rest ← behind_identifier 130 rest
  list ← list_at rest
  at_end (record { front = before contents rest; extensions = list.0 }) list.1

-- ---- the whole

-- TBSCertificate
pub record Signed : Type 0 where
  pub front : Front
  pub middle : Middle
  pub tail : Tail

unfoldable pub signed_of : List ℕ → Reading Signed
signed_of contents = do
  front ← front_at contents
  middle ← middle_at front.1
  tail ← tail_of contents middle.1
  Ok (record { front = front.0; middle = middle.0; tail = tail })

-- the algorithm behind the signed part is that within, octet by octet (4.1.1.2)
abbrev pub same_algorithm : List ℕ → List ℕ → Reading (Unit {0})
same_algorithm inner outer = if bytes_eq inner outer then Ok tt else Err Algorithms

-- a BIT STRING without unused bits, as its octets
abbrev pub full_octets : ℕ × List ℕ → Reading (List ℕ)
full_octets bits = checked (bits.0 == 0) bits.1

unfoldable pub signature_at : List ℕ → Reading (List ℕ × List ℕ)
signature_at bytes = bits_at bytes >>= λ x. full_octets x.0 >>= λ octets. Ok (octets, x.1)

pub record Certificate : Type 0 where
  -- the signed part as it is encoded
  pub tbs : List ℕ
  pub signed : Signed
  -- the contents of the AlgorithmIdentifier
  pub algorithm : List ℕ
  pub signature : List ℕ

-- Certificate ::= SEQUENCE { tbsCertificate, signatureAlgorithm, signatureValue BIT STRING }
unfoldable pub parts_of : List ℕ → Reading Certificate
parts_of contents = do
  tbs ← contents_at sequence_tag contents
  signed ← signed_of tbs.0
  algorithm ← algorithm_at tbs.1
  _ ← same_algorithm signed.front.algorithm algorithm.0.encoded
  signature ← signature_at algorithm.1
  at_end (record { tbs = tlv sequence_tag tbs.0; signed = signed; algorithm = algorithm.0.encoded; signature = signature.0 }) signature.1

-- the parts of a certificate that all the bytes encode, or the first refusal in reading order
unfoldable pub certificate_of : List ℕ → Reading Certificate
certificate_of bytes = do
  contents ← contents_at sequence_tag bytes
  parts ← parts_of contents.0
  at_end parts contents.1
