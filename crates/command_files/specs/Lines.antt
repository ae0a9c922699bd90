-- Texts cut at a byte, and files of lines.
use Rattle.std.specs.Prelude.{ℕ, List, [], ◌∷◌, length, Bool, true, if◌then◌else◌, ◌==◌, Option, Some, None, option_map}
use Rattle.std.specs.Prelude.{Result, Ok, Err, ok_or}
use Rattle.std.specs.Str.Lossy.{utf8_valid_len}
use Rattle.foundation.specs.Steps.{◌>>=◌}
use Rattle.command_files.specs.declared.usage_fault.UsageFault.{UsageFault}
use Rattle.command_files.specs.declared.usage_fault.UsageFault.TheVariants.{Usage}

-- the text before the first such byte and the text behind it; none where there is no such byte
abbrev pub cut_of : ℕ → List ℕ → Option (List ℕ × List ℕ)
cut_of at [] = None
cut_of at (byte ∷ bytes) = if byte == at then Some ([], bytes) else option_map (λ parts. (byte ∷ parts.0, parts.1)) (cut_of at bytes)

-- the first line begins with this byte too; behind the last line feed there is no line
abbrev pub begun : ℕ → Option (List (List ℕ)) → Option (List (List ℕ))
begun byte None = None
begun byte (Some []) = None
begun byte (Some (line ∷ lines)) = Some ((byte ∷ line) ∷ lines)

-- the lines of a text, each ended by a line feed; none where the last one isn't
abbrev pub lines_of : List ℕ → Option (List (List ℕ))
lines_of [] = Some []
lines_of (byte ∷ bytes) = if byte == 10 then option_map (λ lines. [] ∷ lines) (lines_of bytes) else begun byte (lines_of bytes)

-- empty lines and those that begin with a number sign are passed over
abbrev pub is_passed_over : List ℕ → Bool
is_passed_over [] = true
is_passed_over (byte ∷ bytes) = byte == 35

-- what a line makes of what was read before it
abbrev pub counted : {S : Type 0} → (S → List ℕ → Result S UsageFault) → S → List ℕ → Result S UsageFault
counted takes state line = if is_passed_over line then Ok state else takes state line

-- what the lines in turn make of what was read before them, or the first refusal
abbrev pub folded_of : {S : Type 0} → (S → List ℕ → Result S UsageFault) → S → List (List ℕ) → Result S UsageFault
folded_of takes state [] = Ok state
folded_of takes state (line ∷ lines) = counted takes state line >>= λ next. folded_of takes next lines

-- the same of a text
abbrev pub text_folded_of : {S : Type 0} → (S → List ℕ → Result S UsageFault) → S → List ℕ → Result S UsageFault
text_folded_of takes state text = ok_or (lines_of text) Usage >>= folded_of takes state

-- the same of a file, which is UTF-8
abbrev pub file_folded_of : {S : Type 0} → (S → List ℕ → Result S UsageFault) → S → List ℕ → Result S UsageFault
file_folded_of takes state bytes = if utf8_valid_len bytes == length bytes then text_folded_of takes state bytes else Err Usage
