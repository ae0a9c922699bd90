-- Extensions (RFC 5280, 4.1 and 4.2).
use Rattle.std.specs.Prelude.{ℕ, zero, suc, List, [], ◌∷◌, Bool, true, false, Option, Some, None, Ok, Err, length}
use Rattle.std.specs.Prelude.{bytes_eq, is_some, if◌then◌else◌}
use Rattle.foundation.specs.Steps.{◌>>=◌}
use Rattle.der_grammar.specs.declared.error.DerError.TheVariants.{Truncated}
use Rattle.der_grammar.specs.Tags.{boolean_tag, octet_string_tag, sequence_tag}
use Rattle.spki_core.specs.declared.error.X509Error.TheVariants.{Der, Extension}
use Rattle.spki_core.specs.Reading.{Reading, contents_at, oid_at, checked, begins_with, at_end}

-- Extension ::= SEQUENCE { extnID OBJECT IDENTIFIER, critical BOOLEAN DEFAULT FALSE, extnValue OCTET STRING }
pub record OneExtension : Type 0 where
  pub oid : List ℕ
  pub critical : Bool
  pub value : List ℕ

-- FALSE, the default, isn't written (X.690, 11.5), and TRUE is written 255 (11.1)
unfoldable pub critical_at : List ℕ → Reading (Bool × List ℕ)
critical_at bytes =
    if begins_with boolean_tag bytes then
    (contents_at boolean_tag bytes >>= λ x. checked (bytes_eq x.0 (255 ∷ [])) (true, x.1))
    else Ok (false, bytes)

unfoldable pub extension_of : List ℕ → Reading OneExtension
extension_of contents = do
  oid ← oid_at contents
  critical ← critical_at oid.1
  value ← contents_at octet_string_tag critical.1
  at_end (record { oid = oid.0; critical = critical.0; value = value.0 }) value.1

unfoldable pub extension_at : List ℕ → Reading (OneExtension × List ℕ)
extension_at bytes = do
  contents ← contents_at sequence_tag bytes
  extension ← extension_of contents.0
  Ok (extension, contents.1)

-- ---- one of them

-- an extension in a list: the list from it on, itself, and what is behind it
pub record Found : Type 0 where
  pub from : List ℕ
  pub extension : OneExtension
  pub behind : List ℕ

abbrev pub found_or : List ℕ → List ℕ → Reading (OneExtension × List ℕ) → (List ℕ → Option Found) → Option Found
found_or oid bytes (Err e) later = None
found_or oid bytes (Ok x) later = if bytes_eq x.0.oid oid then Some (record { from = bytes; extension = x.0; behind = x.1 }) else later x.1

-- the first of at most n with this identifier; what is no extension ends the list
unfoldable pub found_at : ℕ → List ℕ → List ℕ → Option Found
found_at n oid [] = None
found_at zero oid (b ∷ bytes) = None
found_at (suc n) oid (b ∷ bytes) = found_or oid (b ∷ bytes) (extension_at (b ∷ bytes)) (found_at n oid)

unfoldable pub found_of : List ℕ → List ℕ → Option Found
found_of oid list = found_at (length list) oid list

abbrev pub found_in : List ℕ → Option (List ℕ) → Option Found
found_in oid None = None
found_in oid (Some list) = found_of oid list

-- ---- all of them

-- at most n extensions up to the end, and no later one has the identifier of an earlier one
unfoldable pub distinct_at : ℕ → List ℕ → Reading (Unit {0})
distinct_at n [] = Ok tt
distinct_at zero (b ∷ bytes) = Err (Der Truncated)
distinct_at (suc n) (b ∷ bytes) =
    extension_at (b ∷ bytes) >>= λ x. if is_some (found_of x.0.oid x.1) then Err Extension else distinct_at n x.1

unfoldable pub distinct_of : List ℕ → Reading (Unit {0})
distinct_of list = distinct_at (length list) list
