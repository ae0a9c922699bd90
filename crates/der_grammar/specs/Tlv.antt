-- A tag, a length and a value (X.690, 8.1), the length definite and in its shortest form (10.1).
use Rattle.std.specs.Prelude.{◌≡◌, ◌≢◌, ℕ, ◌+◌, ◌-◌, ◌*◌, ◌/◌, ◌%◌}
use Rattle.std.specs.Prelude.{◌<◌, List, [], ◌∷◌, ◌++◌, length, take, drop}
use Rattle.std.specs.Prelude.{Option, Some, None, Ok, Err, nat_lt, ◌==◌, if◌then◌else◌}
use Rattle.foundation.specs.Steps.{◌>>=◌}
use Rattle.der_grammar.specs.declared.error.DerError.TheVariants.{Truncated, Length, Tag, TooLong}
use Rattle.der_grammar.specs.declared.reader.Tag.{Tag as TagType}
use Rattle.der_grammar.specs.Outcome.{Outcome}

-- an identifier octet whose number isn't 31, the mark of several octets (X.690, 8.1.2.4)
abbrev pub IsTag : ℕ → Type 0
IsTag tag = (tag < 256) × (tag % 32 ≢ 31)

abbrev pub IsBytes : List ℕ → Type 0
IsBytes [] = Unit {0}
IsBytes (b ∷ bytes) = (b < 256) × IsBytes bytes

-- the shortest definite form of a length (X.690, 8.1.3.4, 8.1.3.5 and 10.1)
unfoldable pub length_bytes : ℕ → List ℕ
length_bytes n =
    if nat_lt n 128 then n ∷ []
    else if nat_lt n 256 then 129 ∷ n ∷ []
    else if nat_lt n 65536 then 130 ∷ (n / 256) ∷ (n % 256) ∷ []
    else if nat_lt n 16777216 then 131 ∷ (n / 65536) ∷ (n / 256 % 256) ∷ (n % 256) ∷ []
    else 132 ∷ (n / 16777216) ∷ (n / 65536 % 256) ∷ (n / 256 % 256) ∷ (n % 256) ∷ []

-- the encoding of a tag with its contents (X.690, 8.1.1)
unfoldable pub tlv : ℕ → List ℕ → List ℕ
tlv tag value = tag ∷ (length_bytes (length value) ++ value)

-- the bytes begin with the encoding of a tag and contents, and the rest follows
pub record IsTlv (bytes : List ℕ) (tag : ℕ) (value rest : List ℕ) : Type 0 where
  pub whole : bytes ≡ tlv tag value ++ rest
  pub tagged : IsTag tag
  pub fits : length value < 268435456
  pub value_bytes : IsBytes value
  pub rest_bytes : IsBytes rest

-- ---- reading, from left to right, with the first refusal

abbrev pub at_least : ℕ → ℕ → Outcome ℕ
at_least least n = if nat_lt n least then Err Length else Ok n

-- the number of one to four length bytes, none of which could be left out
unfoldable pub number_of : List ℕ → Outcome ℕ
number_of [] = Err Length
number_of (a ∷ []) = at_least 128 a
number_of (a ∷ b ∷ []) = at_least 256 (256 * a + b)
number_of (a ∷ b ∷ c ∷ []) = at_least 65536 (256 * (256 * a + b) + c)
number_of (a ∷ b ∷ c ∷ d ∷ []) = at_least 16777216 (256 * (256 * (256 * a + b) + c) + d)
number_of (a ∷ b ∷ c ∷ d ∷ e ∷ more) = Err Length

-- the length at the front, and what follows
unfoldable pub length_at : List ℕ → Outcome (ℕ × List ℕ)
length_at [] = Err Truncated
length_at (b ∷ bytes) =
    if nat_lt b 128 then Ok (b, bytes)
    else if nat_lt (length bytes) (b - 128) then Err Truncated
    else number_of (take (b - 128) bytes) >>= λ n. Ok (n, drop (b - 128) bytes)

-- the contents of a length that was read, and what follows
unfoldable pub value_at : ℕ → (ℕ × List ℕ) → Outcome (ℕ × List ℕ × List ℕ)
value_at tag n =
    if nat_lt n.0 268435456 then (if nat_lt (length n.1) n.0 then Err Truncated else Ok (tag, take n.0 n.1, drop n.0 n.1))
    else Err TooLong

-- the tag, its contents, and what follows
unfoldable pub tlv_at : List ℕ → Outcome (ℕ × List ℕ × List ℕ)
tlv_at [] = Err Truncated
tlv_at (tag ∷ bytes) = if tag % 32 == 31 then Err Tag else length_at bytes >>= value_at tag

-- ---- the next tag

abbrev pub next_tag : List ℕ → Option ℕ
next_tag [] = None
next_tag (tag ∷ bytes) = Some tag

-- an optional tag as its number
abbrev pub option_tag : Option TagType → Option ℕ
option_tag None = None
option_tag (Some tag) = Some tag.0
