-- OCTET STRING (X.690, 8.7 and 10.2).
use Rattle.std.specs.Prelude.{ℕ, true, List, refl}
use Rattle.der_grammar.specs.Types.{AsnType, primitive_type}

abbrev pub octet_string_type : AsnType (List ℕ)
octet_string_type = primitive_type 4 (λ c. true) refl
