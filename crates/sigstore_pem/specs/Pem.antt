-- The strict textual encoding of keys and certificates (RFC 7468, figure 3 of section 3).
use Rattle.std.specs.Prelude.{ℕ, ◌==◌, nat_lt, List, [], ◌∷◌, ◌++◌, length, take, codes, bytes_eq}
use Rattle.std.specs.Prelude.{Bool, false, ◌&&◌, ◌||◌, if◌then◌else◌, Option, Some, None, option_map}
use Rattle.std.specs.Option.{option_and_then}
use Rattle.std.specs.Result.{result_ok}
use Rattle.base64.specs.Engines.{standard}
use Rattle.base64.specs.GeneralPurpose.{decode_of}

-- CR or LF (section 3, eol)
abbrev pub is_line_end : ℕ → Bool
is_line_end byte = byte == 13 || byte == 10

-- a LF stands there
abbrev pub is_at_line_feed : List ℕ → Bool
is_at_line_feed [] = false
is_at_line_feed (byte ∷ bytes) = byte == 10

-- the first line begins with this byte too
abbrev pub begun : ℕ → List (List ℕ) → List (List ℕ)
begun byte [] = (byte ∷ []) ∷ []
begun byte (line ∷ lines) = (byte ∷ line) ∷ lines

-- the lines of a text: a line ends with CR LF, CR or LF (section 3, eol), the last one also with the text;
-- a CR before a LF belongs to the end that the LF makes
unfoldable pub lines_of : List ℕ → List (List ℕ)
lines_of [] = []
lines_of (byte ∷ bytes) =
    if byte == 13 && is_at_line_feed bytes then lines_of bytes else
    if is_line_end byte then [] ∷ lines_of bytes else begun byte (lines_of bytes)

-- the line before a block and the line behind it (section 3, preeb and posteb)
abbrev pub begin_line : List ℕ → List ℕ
begin_line label = codes "-----BEGIN " ++ label ++ codes "-----"

abbrev pub end_line : List ℕ → List ℕ
end_line label = codes "-----END " ++ label ++ codes "-----"

-- a line that begins so opens a block, whatever its label is (section 2)
abbrev pub is_opening : List ℕ → Bool
is_opening line = bytes_eq (take 11 line) (codes "-----BEGIN ")

-- the lines from the first one on that opens a block; explanatory text before it is passed over (section 2)
unfoldable pub from_opening : List (List ℕ) → List (List ℕ)
from_opening [] = []
from_opening (line ∷ lines) = if is_opening line then line ∷ lines else from_opening lines

-- the first line is the wanted one
abbrev pub is_first : List ℕ → List (List ℕ) → Bool
is_first wanted [] = false
is_first wanted (line ∷ lines) = bytes_eq line wanted

-- the base64 text before the first line `end`: lines of 64 characters, then at most one of 1 to 63
-- (section 3, strictbase64text)
unfoldable pub base64_before : List ℕ → List (List ℕ) → Option (List ℕ)
base64_before end [] = None
base64_before end (line ∷ lines) =
    if bytes_eq line end then Some [] else
    if length line == 64 then option_map (λ text. line ++ text) (base64_before end lines) else
    if nat_lt 0 (length line) && nat_lt (length line) 64 && is_first end lines then Some line else None

-- the octets that base64 spells, with its padding and with no bits left over (RFC 4648, sections 3.2, 3.5 and 4)
abbrev pub octets_of : List ℕ → Option (List ℕ)
octets_of text = result_ok (decode_of standard text)

-- what the block holds that begins with the first of these lines, where that is the line `begin`
abbrev pub block_of : List ℕ → List ℕ → List (List ℕ) → Option (List ℕ)
block_of begin end [] = None
block_of begin end (line ∷ lines) =
    if bytes_eq line begin then option_and_then octets_of (base64_before end lines) else None

-- what the first block of a text holds, where it has that label; the lines behind it don't count
unfoldable pub content_of : List ℕ → List ℕ → Option (List ℕ)
content_of label text = block_of (begin_line label) (end_line label) (from_opening (lines_of text))

-- the labels of a SubjectPublicKeyInfo (section 13) and of a certificate (section 5)
abbrev pub key_label : List ℕ
key_label = codes "PUBLIC KEY"

abbrev pub certificate_label : List ℕ
certificate_label = codes "CERTIFICATE"

-- the first block of a text has one of these labels
unfoldable pub is_armored_text : List ℕ → Bool
is_armored_text text =
    let opening = from_opening (lines_of text) in
    is_first (begin_line key_label) opening || is_first (begin_line certificate_label) opening
