-- Checkpoints of transparency logs (C2SP tlog-checkpoint), which are signed notes (C2SP signed-note).
use Rattle.std.specs.Prelude.{ℕ, ◌^◌, ◌==◌, nat_lt, List, [], ◌∷◌, ◌++◌, length, take, drop, bytes_eq}
use Rattle.std.specs.Prelude.{Bool, true, false, not, ◌&&◌, ◌||◌, if◌then◌else◌, Option, Result, Ok, Err, ok_or}
use Rattle.std.specs.List.{list_all, slice_split, position_or_len, before_first, after_first}
use Rattle.std.specs.Result.{result_ok}
use Rattle.std.specs.Char.{is_ascii_digit}
use Rattle.std.specs.Str.Lossy.{utf8_valid_len}
use Rattle.std.specs.Str.Parse.{digits_value}
use Rattle.base64.specs.Engines.{standard}
use Rattle.base64.specs.GeneralPurpose.{decode_of}
use Rattle.foundation.specs.Steps.{◌>>=◌}
use Rattle.sigstore_types_parts.specs.declared.error.CheckpointRule.{CheckpointRule}
use Rattle.sigstore_types_parts.specs.declared.error.CheckpointRule.TheVariants as rule
use Rattle.sigstore_types_parts.specs.declared.error.TypesError.{TypesError}
use Rattle.sigstore_types_parts.specs.declared.error.TypesError.TheVariants as e
use Rattle.sigstore_entries.specs.declared.checkpoint.Checkpoint.{Checkpoint}
use Rattle.sigstore_entries.specs.declared.signature_line.CheckpointSignature.{CheckpointSignature}

-- ---- lines

-- what stands between the line feeds of a text: a line ends with a line feed where another one stands behind it
abbrev pub lines_of : List ℕ → List (List ℕ)
lines_of text = slice_split (λ byte. byte == 10) text

-- a line in UTF-8
abbrev pub text_of : CheckpointRule → List ℕ → Result (List ℕ) TypesError
text_of rule line = if utf8_valid_len line == length line then Ok line else Err (e.Checkpoint rule)

-- the first line, which ends with a line feed, and the lines behind it
abbrev pub ended_of : CheckpointRule → List (List ℕ) → Result (List ℕ × List (List ℕ)) TypesError
ended_of rule [] = Err (e.Checkpoint rule)
ended_of rule (line ∷ []) = Err (e.Checkpoint rule)
ended_of rule (line ∷ next ∷ lines) = Ok (line, next ∷ lines)

-- what that line reads as, and the lines behind it
unfoldable pub line_of : {T : Type 0} → CheckpointRule → (List ℕ → Result T TypesError) → List (List ℕ) → Result (T × List (List ℕ)) TypesError
line_of rule reads lines = do
  parts ← ended_of rule lines
  value ← reads parts.0
  Ok (value, parts.1)

-- ---- what is signed

unfoldable pub origin_of : List ℕ → Result (List ℕ) TypesError
origin_of line = do
  origin ← text_of rule.Origin line
  if length origin == 0 then Err (e.Checkpoint rule.Origin) else Ok origin

-- decimal digits, of which the first is 0 only in the number 0
abbrev pub is_shortest_decimal : List ℕ → Bool
is_shortest_decimal [] = false
is_shortest_decimal (first ∷ digits) = list_all is_ascii_digit (first ∷ digits) && (not (first == 48) || length digits == 0)

-- a number below 2^64
unfoldable pub decimal_of : List ℕ → Result ℕ TypesError
decimal_of digits =
    if is_shortest_decimal digits && nat_lt (digits_value 10 digits) (2 ^ 64) then Ok (digits_value 10 digits) else Err (e.Checkpoint rule.Size)

-- the number that a text is the shortest decimal of
abbrev pub shortest_of : List ℕ → Option ℕ
shortest_of text = result_ok (decimal_of text)

abbrev pub size_of : List ℕ → Result ℕ TypesError
size_of line = text_of rule.Size line >>= decimal_of

-- what a text in base64 (RFC 4648, section 4) spells
abbrev pub octets_of : CheckpointRule → List ℕ → Result (List ℕ) TypesError
octets_of rule text = ok_or (result_ok (decode_of standard text)) (e.Checkpoint rule)

-- a SHA-256 value
unfoldable pub root_of : List ℕ → Result (List ℕ) TypesError
root_of line = do
  octets ← octets_of rule.Root line
  if length octets == 32 then Ok octets else Err (e.Checkpoint rule.Root)

-- the lines behind the empty line; the extension lines before it are UTF-8
abbrev pub behind_extensions : List (List ℕ) → Result (List (List ℕ)) TypesError
behind_extensions [] = Err (e.Checkpoint rule.Extension)
behind_extensions (line ∷ []) = Err (e.Checkpoint rule.Extension)
behind_extensions (line ∷ next ∷ lines) =
    if length line == 0 then Ok (next ∷ lines) else
    (text_of rule.Extension line >>= λ _. behind_extensions (next ∷ lines))

-- what is signed: the lines before the empty one, each with its line feed (signed-note, "text")
abbrev pub signed_of : List (List ℕ) → List ℕ
signed_of [] = []
signed_of (line ∷ []) = []
signed_of (line ∷ next ∷ lines) = if length line == 0 then [] else line ++ (10 ∷ signed_of (next ∷ lines))

-- ---- signatures (signed-note, "signature line")

-- what stands before the first space, and what stands behind it
abbrev pub word_of : List ℕ → Result (List ℕ × List ℕ) TypesError
word_of text =
    if nat_lt (position_or_len (λ byte. byte == 32) text) (length text)
    then Ok (before_first (λ byte. byte == 32) text, after_first (λ byte. byte == 32) text)
    else Err (e.Checkpoint rule.Signature)

-- U+2014
abbrev pub dash : List ℕ
dash = 0xE2 ∷ 0x80 ∷ 0x94 ∷ []

-- a dash, a name and base64, one space between them: the name and the base64
unfoldable pub named_of : List ℕ → Result (List ℕ × List ℕ) TypesError
named_of line = do
  text ← text_of rule.Signature line
  first ← word_of text
  second ← word_of first.1
  if bytes_eq first.0 dash && not (length second.0 == 0) then Ok second else Err (e.Checkpoint rule.Signature)

-- the four octets of a key's hint, and the signature behind them
abbrev pub key_signature : List ℕ → List ℕ → CheckpointSignature
key_signature name octets = record { name = name; key_id = take 4 octets; signature = drop 4 octets }

-- the base64 is of a key's hint and of a signature of one octet or more
unfoldable pub signature_of : List ℕ → Result CheckpointSignature TypesError
signature_of line = do
  named ← named_of line
  octets ← octets_of rule.Signature named.1
  if nat_lt 4 (length octets) then Ok (key_signature named.0 octets) else Err (e.Checkpoint rule.Signature)

-- no line follows: the text ended with the last line, or with its line feed
abbrev pub is_end : List (List ℕ) → Bool
is_end [] = true
is_end (line ∷ []) = length line == 0
is_end (line ∷ next ∷ lines) = false

-- one signature line or more, in order, up to the end of the text
abbrev pub signatures_of : List (List ℕ) → Result (List CheckpointSignature) TypesError
signatures_of [] = Err (e.Checkpoint rule.Signature)
signatures_of (line ∷ lines) = do
  first ← signature_of line
  if is_end lines then Ok (first ∷ []) else (signatures_of lines >>= λ others. Ok (first ∷ others))

-- ---- the whole

-- a checkpoint's origin, size and root, other lines, an empty line, and its signatures; the whole is UTF-8 (signed-note), as its
-- lines are
unfoldable pub checkpoint_of : List ℕ → Result Checkpoint TypesError
checkpoint_of text = do
  origin ← line_of rule.Origin origin_of (lines_of text)
  size ← line_of rule.Size size_of origin.1
  root ← line_of rule.Root root_of size.1
  behind ← behind_extensions root.1
  signatures ← signatures_of behind
  whole ← text_of rule.Signature text
  Ok (record {
    text = whole;
    signed_length = length (signed_of (lines_of text));
    origin = origin.0;
    tree_size = size.0;
    root_hash = root.0;
    signatures = signatures;
  })

-- what its signatures sign
abbrev pub signed_data_of : Checkpoint → List ℕ
signed_data_of checkpoint = take checkpoint.signed_length checkpoint.text
