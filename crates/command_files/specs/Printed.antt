-- The lines that the program writes.
use Rattle.std.specs.Prelude.{ℕ, ◌+◌, ◌/◌, ◌%◌, List, [], ◌∷◌, ◌++◌, codes, nat_lt, nat_eq, not, Bool, ◌&&◌, if◌then◌else◌}
use Rattle.std.specs.Fmt.{decimal}
use Rattle.hex.specs.Hex.{encode_lower}

-- a lower-case hexadecimal digit
abbrev pub hex_digit_of : ℕ → ℕ
hex_digit_of n = if nat_lt n 10 then 48 + n else 87 + n

-- a byte from 20 to 7E that isn't the backslash
abbrev pub is_plain : ℕ → Bool
is_plain byte = nat_lt 31 byte && nat_lt byte 127 && not (nat_eq byte 92)

-- a plain byte as it is, and every other one as `\x` and two digits
abbrev pub printed_byte : ℕ → List ℕ
printed_byte byte = if is_plain byte then byte ∷ [] else 92 ∷ 120 ∷ hex_digit_of (byte / 16) ∷ hex_digit_of (byte % 16) ∷ []

abbrev pub printed : List ℕ → List ℕ
printed [] = []
printed (byte ∷ bytes) = printed_byte byte ++ printed bytes

-- a word on a line of its own
unfoldable pub line_of : List ℕ → List ℕ
line_of word = word ++ 10 ∷ []

-- a word and another one
unfoldable pub pair_line : List ℕ → List ℕ → List ℕ
pair_line word other = word ++ 32 ∷ other ++ 10 ∷ []

-- a word and a number in decimal
abbrev pub number_line : List ℕ → ℕ → List ℕ
number_line word number = pair_line word (decimal number)

-- a word and a text
abbrev pub text_line : List ℕ → List ℕ → List ℕ
text_line word text = pair_line word (printed text)

-- a word, a text and a number in decimal
abbrev pub named_line : List ℕ → List ℕ → ℕ → List ℕ
named_line word name number = pair_line word (printed name ++ 32 ∷ decimal number)

-- a word, another one and bytes in hexadecimal
abbrev pub hex_line : List ℕ → List ℕ → List ℕ → List ℕ
hex_line word name bytes = pair_line word (name ++ 32 ∷ encode_lower bytes)

-- a word and an answer
abbrev pub answer_line : List ℕ → Bool → List ℕ
answer_line word answer = pair_line word (if answer then codes "yes" else codes "no")

-- a refusal by its number and its name
abbrev pub refused_line : List ℕ → ℕ → List ℕ → List ℕ
refused_line layer number name = pair_line (codes "refused") (layer ++ 32 ∷ decimal number ++ 32 ∷ name)
