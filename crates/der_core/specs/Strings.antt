-- INTEGER and the strings: which contents are in the grammar.
use Rattle.std.specs.Prelude.{ℕ, ◌+◌, ◌^◌, ◌%◌, Bool, true, false, not, ◌&&◌, ◌||◌}
use Rattle.std.specs.Prelude.{◌==◌, nat_lt, List, [], ◌∷◌, length, slice_index, refl}
use Rattle.std.specs.List.{list_all}
use Rattle.std.specs.Str.{is_utf8}
use Rattle.der_grammar.specs.Types.{AsnType, primitive_type}
use Rattle.der_grammar.specs.Tags.{bit_string_tag, ia5_tag, integer_tag, utf8_tag}

-- at least one octet; the first nine bits are neither all zeros nor all ones (X.690, 8.3.2)
abbrev pub is_int : List ℕ → Bool
is_int [] = false
is_int (a ∷ []) = true
is_int (a ∷ b ∷ more) = not ((a == 0 && nat_lt b 128) || (a == 255 && not (nat_lt b 128)))

-- the count of unused bits, 0 to 7, and 0 where there are no bits; these bits are zeros
-- (X.690, 8.6.2.2, 8.6.2.3 and 11.2.1)
abbrev pub is_bit_string : List ℕ → Bool
is_bit_string [] = false
is_bit_string (unused ∷ []) = unused == 0
is_bit_string (unused ∷ b ∷ more) = nat_lt unused 8 && (slice_index (unused ∷ b ∷ more) (length more + 1) % 2 ^ unused == 0)

-- the UTF-8 of some characters
abbrev pub is_utf8_string : List ℕ → Bool
is_utf8_string = is_utf8

abbrev pub is_ia5_string : List ℕ → Bool
is_ia5_string contents = list_all (λ b. nat_lt b 128) contents

abbrev pub int_type : AsnType (List ℕ)
int_type = primitive_type integer_tag is_int refl

abbrev pub bit_string_type : AsnType (List ℕ)
bit_string_type = primitive_type bit_string_tag is_bit_string refl

abbrev pub utf8_type : AsnType (List ℕ)
utf8_type = primitive_type utf8_tag is_utf8_string refl

abbrev pub ia5_type : AsnType (List ℕ)
ia5_type = primitive_type ia5_tag is_ia5_string refl
