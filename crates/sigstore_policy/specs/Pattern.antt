-- What a pattern means. It is of octets, and of the whole text, from the first octet to the last.
use Rattle.std.specs.Prelude.{◌≡◌, ◌↔◌, ℕ, List, [], ◌∷◌, Bool, true, false, not, ◌&&◌, ◌==◌, if◌then◌else◌, IsTrue}
use Rattle.std.specs.List.{AllZip, concat, list_all, list_any}

-- ---- what pieces mean

-- a piece of a pattern: any run of octets that pass a test, or one octet that does
pub data Piece : Type 0 where
  run : (ℕ → Bool) → Piece
  one : (ℕ → Bool) → Piece

-- a piece stands for a part of the text
abbrev pub StandsFor : Piece → List ℕ → Type 0
StandsFor (run test) part = IsTrue (list_all test part)
StandsFor (one test) part = (c : ℕ) × (part ≡ c ∷ []) × IsTrue (test c)

-- the text falls into parts, one for each piece
abbrev pub Fits : List Piece → List ℕ → Type 0
Fits pieces text = (parts : List (List ℕ)) × AllZip StandsFor pieces parts × (concat parts ≡ text)

-- ---- the same as a test

-- what can be left of a text after a run: the text, and what is left after each octet, as far as they pass
abbrev pub after_run : (ℕ → Bool) → List ℕ → List (List ℕ)
after_run test [] = [] ∷ []
after_run test (c ∷ cs) = (c ∷ cs) ∷ (if test c then after_run test cs else [])

-- the pieces stand for the whole text: a run for as much of it as lets the others stand for the rest
abbrev pub fits : List Piece → List ℕ → Bool
fits [] [] = true
fits [] (c ∷ cs) = false
fits (run test ∷ later) cs = list_any (fits later) (after_run test cs)
fits (one test ∷ later) [] = false
fits (one test ∷ later) (c ∷ cs) = test c && fits later cs

-- the test passes exactly where the text falls into such parts
abbrev pub FitsExactly : Type 0
FitsExactly = (pieces : List Piece) (text : List ℕ) → IsTrue (fits pieces text) ↔ Fits pieces text

-- ---- how a pattern is read

abbrev pub any_octet : ℕ → Bool
any_octet c = true

-- any octet but `/`
abbrev pub no_slash : ℕ → Bool
no_slash c = not (c == 47)

-- an octet of a pattern by itself: `*` is any run without `/`, `?` one octet that isn't `/`, any other is itself
abbrev pub piece_of : ℕ → Piece
piece_of c = if c == 42 then run no_slash else if c == 63 then one no_slash else one (λ x. x == c)

-- from the left, the longest star first: `**` is any run
abbrev pub pieces_of : List ℕ → List Piece
pieces_of [] = []
pieces_of (c ∷ []) = piece_of c ∷ []
pieces_of (c ∷ d ∷ later) =
    if (c == 42) && (d == 42) then run any_octet ∷ pieces_of later
    else piece_of c ∷ pieces_of (d ∷ later)

-- whether a text is of a pattern
abbrev pub like : List ℕ → List ℕ → Bool
like pattern text = fits (pieces_of pattern) text
