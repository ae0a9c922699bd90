-- Parts of bytes, or the first refusal in reading order.
use Rattle.std.specs.Prelude.{ℕ, ◌-◌, ◌∷◌, [], List, Bool, false, Option, Some, None, Result, Ok, Err, ◌==◌, length, take, if◌then◌else◌}
use Rattle.foundation.specs.Steps.{◌>>=◌}
use Rattle.der_grammar.specs.declared.error.DerError.{DerError}
use Rattle.der_grammar.specs.declared.error.DerError.TheVariants as der
use Rattle.der_grammar.specs.Outcome.{Outcome}
use Rattle.der_grammar.specs.Tlv.{tlv, tlv_at}
use Rattle.der_grammar.specs.Choices.{is_tag}
use Rattle.der_grammar.specs.Tags.{bit_string_tag, integer_tag, oid_tag}
use Rattle.der_core.specs.Oid.{is_oid}
use Rattle.der_core.specs.Strings.{is_int, is_bit_string}
use Rattle.der_core.specs.Unsigned.{is_uint}
use Rattle.spki_core.specs.declared.error.X509Error.{X509Error}
use Rattle.spki_core.specs.declared.error.X509Error.TheVariants.{Der, Version, Algorithms, Time, Extension, SctList, NoMemory}

abbrev pub Reading : Type 0 → Type 0
Reading A = Result A X509Error

abbrev pub number_of : X509Error → ℕ
number_of (Der e) = 1
number_of Version = 2
number_of Algorithms = 3
number_of Time = 4
number_of Extension = 5
number_of SctList = 6
number_of NoMemory = 7

-- a refusal of DER, as one of this crate
abbrev pub error_of_der : DerError → X509Error
error_of_der der.NoMemory = NoMemory
error_of_der e = Der e

abbrev pub of_der : {A : Type 0} → Outcome A → Reading A
of_der (Ok a) = Ok a
of_der (Err e) = Err (error_of_der e)

-- ---- what is read at the front, and what follows

abbrev pub with_tag : ℕ → ℕ × List ℕ × List ℕ → Reading (List ℕ × List ℕ)
with_tag tag t = if t.0 == tag then Ok (t.1, t.2) else Err (Der der.Tag)

-- the contents of a value that has this tag
unfoldable pub contents_at : ℕ → List ℕ → Reading (List ℕ × List ℕ)
contents_at tag bytes = of_der (tlv_at bytes) >>= with_tag tag

-- a value that has this tag, as it is encoded
unfoldable pub encoded_at : ℕ → List ℕ → Reading (List ℕ × List ℕ)
encoded_at tag bytes = contents_at tag bytes >>= λ x. Ok (tlv tag x.0, x.1)

abbrev pub checked : {A : Type 0} → Bool → A → Reading A
checked test a = if test then Ok a else Err (Der der.Value)

-- the contents of an OBJECT IDENTIFIER
unfoldable pub oid_at : List ℕ → Reading (List ℕ × List ℕ)
oid_at bytes = contents_at oid_tag bytes >>= λ x. checked (is_oid x.0) x

-- the contents of an INTEGER
unfoldable pub int_at : List ℕ → Reading (List ℕ × List ℕ)
int_at bytes = contents_at integer_tag bytes >>= λ x. checked (is_int x.0) x

-- the contents of an INTEGER from 0 on
unfoldable pub uint_at : List ℕ → Reading (List ℕ × List ℕ)
uint_at bytes = contents_at integer_tag bytes >>= λ x. checked (is_uint x.0) x

-- whether a value with this tag comes next
abbrev pub begins_with : ℕ → List ℕ → Bool
begins_with tag [] = false
begins_with tag (t ∷ bytes) = t == tag

-- a value of any type as it is encoded, where one is there
unfoldable pub any_at : List ℕ → Reading (Option (List ℕ) × List ℕ)
any_at [] = Ok (None, [])
any_at (tag ∷ bytes) = if is_tag tag then (of_der (tlv_at (tag ∷ bytes)) >>= λ t. Ok (Some (tlv t.0 t.1), t.2)) else Ok (None, tag ∷ bytes)

-- a BIT STRING: the count of unused bits, and the octets of the bits
abbrev pub bits_of : List ℕ → Reading (ℕ × List ℕ)
bits_of [] = Err (Der der.Value)
bits_of (unused ∷ octets) = checked (is_bit_string (unused ∷ octets)) (unused, octets)

unfoldable pub bits_at : List ℕ → Reading ((ℕ × List ℕ) × List ℕ)
bits_at bytes = contents_at bit_string_tag bytes >>= λ x. bits_of x.0 >>= λ bits. Ok (bits, x.1)

-- the value, where nothing follows
abbrev pub at_end : {A : Type 0} → A → List ℕ → Reading A
at_end a bytes = if length bytes == 0 then Ok a else Err (Der der.Trailing)

-- what stands before a rest
abbrev pub before : List ℕ → List ℕ → List ℕ
before bytes rest = take (length bytes - length rest) bytes
