-- Types that are kept as their contents: which contents are in the grammar.
use Rattle.std.specs.Prelude.{ℕ, List, Bool, true, ◌&&◌, nat_le, length, is_ok, refl}
use Rattle.foundation.specs.Steps.{◌>>=◌}
use Rattle.der_grammar.specs.Outcome.{Outcome}
use Rattle.der_grammar.specs.Tlv.{tlv_at}
use Rattle.der_grammar.specs.Grammar.{ended}
use Rattle.der_grammar.specs.Types.{AsnType, primitive_type}
use Rattle.der_grammar.specs.Tags.{integer_tag, octet_string_tag, sequence_tag}
use Rattle.der_core.specs.Strings.{is_int}
use Rattle.x509_views.specs.Certificates.{parts_of}

abbrev pub is_any : List ℕ → Bool
is_any contents = true

-- an INTEGER of at most 20 octets (RFC 5280, 4.1.2.2), and a sign octet
abbrev pub is_serial_number : List ℕ → Bool
is_serial_number contents = is_int contents && nat_le (length contents) 21

-- tbsCertificate, signatureAlgorithm and signatureValue (RFC 5280, 4.1), as a view of a certificate reads them
abbrev pub is_certificate : List ℕ → Bool
is_certificate contents = is_ok (parts_of contents)

-- tbsCertList, signatureAlgorithm and signatureValue (RFC 5280, 5.1), of whatever types
unfoldable pub three_values : List ℕ → Outcome (Unit {0})
three_values contents = do
  list ← tlv_at contents
  algorithm ← tlv_at list.2
  signature ← tlv_at algorithm.2
  ended (tt, signature.2)

abbrev pub is_certificate_list : List ℕ → Bool
is_certificate_list contents = is_ok (three_values contents)

abbrev pub name_type : AsnType (List ℕ)
name_type = primitive_type sequence_tag is_any refl

abbrev pub serial_number_type : AsnType (List ℕ)
serial_number_type = primitive_type integer_tag is_serial_number refl

abbrev pub subject_key_identifier_type : AsnType (List ℕ)
subject_key_identifier_type = primitive_type octet_string_tag is_any refl

abbrev pub certificate_type : AsnType (List ℕ)
certificate_type = primitive_type sequence_tag is_certificate refl

abbrev pub certificate_list_type : AsnType (List ℕ)
certificate_list_type = primitive_type sequence_tag is_certificate_list refl
