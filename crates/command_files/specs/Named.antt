-- Words of the form `--name=value`, and their values by their names.
use Rattle.std.specs.Prelude.{ℕ, List, [], ◌∷◌, map, bytes_eq, Bool, not, ◌&&◌, ◌||◌, if◌then◌else◌}
use Rattle.std.specs.Prelude.{is_some, unwrap_or, Option, Some, None, Result, Ok, Err, ok_or}
use Rattle.std.specs.Borrow.{Bor}
use Rattle.std.specs.BTreeMap.{insert_entry}
use Rattle.std.specs.List.{list_all, list_any}
use Rattle.jiff_core.specs.declared.timestamp.Timestamp.{Timestamp}
use Rattle.foundation.specs.Steps.{◌>>=◌}
use Rattle.sigstore_types_parts.specs.Entries.{text_cmp, at_name}
use Rattle.sigstore_types_parts.specs.Instant.{instant_of}
use Rattle.command_files.specs.Lines.{cut_of}
use Rattle.command_files.specs.declared.named.Names.{Names}
use Rattle.command_files.specs.declared.usage_fault.UsageFault.{UsageFault}
use Rattle.command_files.specs.declared.usage_fault.UsageFault.TheVariants.{Usage}

-- values by their names
abbrev pub Values : Type 0
Values = List (List ℕ × List ℕ)

-- the texts that are lent
abbrev pub texts : List (Bor (List ℕ)) → List (List ℕ)
texts lent = map (λ text. text.now) lent

abbrev pub is_among : List (List ℕ) → List ℕ → Bool
is_among names name = list_any (λ known. bytes_eq known name) names

-- a name that may stand
abbrev pub is_known : List (List ℕ) → List (List ℕ) → List ℕ → Bool
is_known wanted optional name = is_among wanted name || is_among optional name

abbrev pub known_by : Names → List ℕ → Bool
known_by names = is_known (texts names.wanted.now) (texts names.optional.now)

unfoldable pub has_name : Values → List ℕ → Bool
has_name found name = is_some (at_name name found)

-- a value under a known name that has none yet
abbrev pub value_placed : (List ℕ → Bool) → Values → List ℕ → List ℕ → Result Values UsageFault
value_placed known found name value =
    if known name && not (has_name found name) then Ok (insert_entry text_cmp found name value) else Err Usage

-- `--name=value`: the name is all before the first equals sign, and the value isn't empty
abbrev pub word_placed : (List ℕ → Bool) → Values → List ℕ → Result Values UsageFault
word_placed known found word = do
  parts ← ok_or (cut_of 61 word) Usage
  if bytes_eq parts.1 [] then Err Usage else value_placed known found parts.0 parts.1

-- each of the words in turn
abbrev pub words_placed : (List ℕ → Bool) → Values → List (List ℕ) → Result Values UsageFault
words_placed known found [] = Ok found
words_placed known found (word ∷ words) = word_placed known found word >>= λ next. words_placed known next words

-- each wanted name has a value
abbrev pub whole_of : List (List ℕ) → Values → Result Values UsageFault
whole_of wanted found = if list_all (has_name found) wanted then Ok found else Err Usage

-- the values of words, each wanted one among them
abbrev pub values_of : (List ℕ → Bool) → List (List ℕ) → List (List ℕ) → Result Values UsageFault
values_of known wanted words = words_placed known [] words >>= whole_of wanted

-- The values of a command's words: the first word is the command's; each other one is `--name=value`, under a wanted or an
-- optional name, each at most once; and each wanted name stands.
unfoldable pub named_of : List ℕ → List (List ℕ) → List (List ℕ) → List (List ℕ) → Result Values UsageFault
named_of command wanted optional [] = Err Usage
named_of command wanted optional (word ∷ words) =
    if bytes_eq word command then values_of (is_known wanted optional) wanted words else Err Usage

-- the value under a name; empty where there is none
abbrev pub text_at : List ℕ → Values → List ℕ
text_at name found = unwrap_or (at_name name found) []

-- the instant of a text
abbrev pub moment_of : Option (List ℕ) → Result (Option Timestamp) UsageFault
moment_of None = Ok None
moment_of (Some text) = ok_or (instant_of text) Usage >>= λ moment. Ok (Some moment)

-- the instant under a name, where there is one
abbrev pub moment_at : List ℕ → Values → Result (Option Timestamp) UsageFault
moment_at name found = moment_of (at_name name found)
