-- INTEGER of numbers from 0 on, and the octets of such a number.
use Rattle.std.specs.Prelude.{ℕ, Bool, false, ◌&&◌, ◌==◌, nat_lt, List, [], ◌∷◌, Ok, Err, if◌then◌else◌, refl}
use Rattle.der_grammar.specs.declared.error.DerError.TheVariants.{Value}
use Rattle.der_grammar.specs.Outcome.{Outcome}
use Rattle.der_grammar.specs.Types.{AsnType, primitive_type}
use Rattle.der_grammar.specs.Tags.{integer_tag}
use Rattle.der_core.specs.Strings.{is_int}

-- the sign bit is 0
abbrev pub has_no_sign : List ℕ → Bool
has_no_sign [] = false
has_no_sign (a ∷ more) = nat_lt a 128

abbrev pub is_uint : List ℕ → Bool
is_uint contents = is_int contents && has_no_sign contents

-- the octets without leading zeros, but one octet at least where there is one
abbrev pub without_zeros : List ℕ → List ℕ
without_zeros [] = []
without_zeros (a ∷ []) = a ∷ []
without_zeros (a ∷ b ∷ more) = if a == 0 then without_zeros (b ∷ more) else a ∷ b ∷ more

-- a zero in front where the first bit would be read as a sign
abbrev pub with_sign : List ℕ → List ℕ
with_sign [] = []
with_sign (a ∷ more) = if nat_lt a 128 then a ∷ more else 0 ∷ a ∷ more

-- the contents for the octets of a number, the most significant first
abbrev pub uint_of : List ℕ → Outcome (List ℕ)
uint_of [] = Err Value
uint_of (a ∷ more) = Ok (with_sign (without_zeros (a ∷ more)))

abbrev pub uint_type : AsnType (List ℕ)
uint_type = primitive_type integer_tag is_uint refl
