-- Which paths a delegation is for (TUF specification, section 4.5: delegations).
use Rattle.std.specs.Prelude.{◌≡◌, ℕ, zero, suc, ◌+◌, List, [], ◌∷◌, length, Bool, true, false, not, ◌&&◌, ◌||◌, ◌==◌}
use Rattle.std.specs.Prelude.{nat_le, if◌then◌else◌, bytes_eq, Option, Some, None, Result, Ok, ok_or, option_map, codes}
use Rattle.std.specs.Prelude.{⊤}
use Rattle.std.specs.List.{AllZip, concat, list_any, before_first}
use Rattle.std.specs.Str.{chars}
use Rattle.sigstore_tuf_text.specs.declared.error.Error.{Error}
use Rattle.sigstore_tuf_text.specs.declared.error.Error.TheVariants.{Malformed}
use Rattle.sigstore_tuf_text.specs.declared.error.Rule.TheVariants as rule
use Rattle.foundation.specs.Steps.{◌>>=◌}

-- ---- what a pattern means

-- a piece of a segment: any run of characters, or one character that passes a test
pub data Piece : Type 0 where
  run : Piece
  one : (ℕ → Bool) → Piece

-- a piece stands for a part of the text: a run for any, the other for one character
abbrev pub StandsFor : Piece → List ℕ → Type 0
StandsFor run part = ⊤
StandsFor (one test) part = (c : ℕ) × (part ≡ c ∷ []) × (test c ≡ true)

-- the text falls into parts, one for each piece
abbrev pub Fits : List Piece → List ℕ → Type 0
Fits pieces text = (parts : List (List ℕ)) × AllZip StandsFor pieces parts × (concat parts ≡ text)

-- ---- the same as a test

-- the text and what is left of it after each of its characters
abbrev pub suffixes : List ℕ → List (List ℕ)
suffixes [] = [] ∷ []
suffixes (c ∷ cs) = (c ∷ cs) ∷ suffixes cs

-- the pieces stand for the whole text: a run for as much of it as lets the others stand for the rest
abbrev pub fits : List Piece → List ℕ → Bool
fits [] [] = true
fits [] (c ∷ cs) = false
fits (run ∷ later) cs = list_any (fits later) (suffixes cs)
fits (one test ∷ later) [] = false
fits (one test ∷ later) (c ∷ cs) = test c && fits later cs

-- as many segments, and each for its own
abbrev pub all_fit : List (List Piece) → List (List ℕ) → Bool
all_fit [] [] = true
all_fit [] (s ∷ segments) = false
all_fit (p ∷ patterns) [] = false
all_fit (p ∷ patterns) (s ∷ segments) = fits p (chars s) && all_fit patterns segments

-- ---- how a pattern is read

abbrev pub any_character : ℕ → Bool
any_character c = true

-- one of the members of a class, where `a-b` is a range
abbrev pub is_member : List ℕ → ℕ → Bool
is_member [] c = false
is_member (a ∷ []) c = a == c
is_member (a ∷ b ∷ []) c = (a == c) || (b == c)
is_member (a ∷ dash ∷ b ∷ later) c =
    if dash == 45 then (nat_le a c && nat_le c b) || is_member later c
    else (a == c) || is_member (dash ∷ b ∷ later) c

-- what was read, and how many characters of the text it took
abbrev pub Taken : Type 0
Taken = Piece × ℕ

-- a class whose first member is read: it ends at the first `]` after that
abbrev pub closed_class : (Bool → Bool) → ℕ → ℕ → List ℕ → Option Taken
closed_class turn taken first later =
    if list_any (λ c. c == 93) later
    then Some (
      one (λ c. turn (is_member (first ∷ before_first (λ c. c == 93) later) c)),
      taken + length (before_first (λ c. c == 93) later) + 1,
    )
    else None

-- a class after its `[!`, and after its `[`: it has at least one member
abbrev pub other_class : List ℕ → Option Taken
other_class [] = None
other_class (first ∷ later) = closed_class not 2 first later

abbrev pub class_of : List ℕ → Option Taken
class_of [] = None
class_of (first ∷ later) = if first == 33 then other_class later else closed_class (λ b. b) 1 first later

-- a star, unless another follows it
abbrev pub star_of : List ℕ → Option Taken
star_of [] = Some (run, 0)
star_of (c ∷ cs) = if c == 42 then None else Some (run, 0)

-- the piece that begins with c, and how many more characters it takes
abbrev pub piece_of : ℕ → List ℕ → Option Taken
piece_of c later =
    if c == 63 then Some (one any_character, 0)
    else if c == 42 then star_of later
    else if c == 91 then class_of later
    else Some (one (λ x. x == c), 0)

-- the first piece before the others, where all were read
abbrev pub with_piece : Option Taken → (ℕ → Option (List Piece)) → Option (List Piece)
with_piece None others = None
with_piece (Some taken) others = option_map (λ pieces. taken.0 ∷ pieces) (others taken.1)

-- the pieces of a text, after so many of its characters that are read already
abbrev pub pieces_after : List ℕ → ℕ → Option (List Piece)
pieces_after [] n = Some []
pieces_after (c ∷ cs) (suc n) = pieces_after cs n
pieces_after (c ∷ cs) zero = with_piece (piece_of c cs) (pieces_after cs)

-- a segment: `**` alone is any text
abbrev pub segment_of : List ℕ → Option (List Piece)
segment_of text = if bytes_eq text (codes "**") then Some (run ∷ []) else pieces_after (chars text) 0

-- with c before the first
abbrev pub on_first : ℕ → List (List ℕ) → List (List ℕ)
on_first c [] = (c ∷ []) ∷ []
on_first c (s ∷ segments) = (c ∷ s) ∷ segments

-- a text, cut at each `/`
abbrev pub cut : List ℕ → List (List ℕ)
cut [] = [] ∷ []
cut (c ∷ cs) = if c == 47 then [] ∷ cut cs else on_first c (cut cs)

-- all segments are read
abbrev pub segments_of : List (List ℕ) → Result (List (List Piece)) Error
segments_of [] = Ok []
segments_of (s ∷ later) = ok_or (segment_of s) (Malformed rule.Pattern) >>= λ p. (segments_of later >>= λ rest. Ok (p ∷ rest))

-- whether the pattern matches the path
unfoldable pub matches : List ℕ → List ℕ → Result Bool Error
matches pattern path = do
  segments ← segments_of (cut pattern)
  Ok (all_fit segments (cut path))
