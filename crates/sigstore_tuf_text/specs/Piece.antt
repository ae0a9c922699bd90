-- What the code reads of a pattern, and the rows by which it matches. Nobody has to believe this: what a pattern means is in Pattern.
use Rattle.std.specs.Prelude.{◌≡◌, ℕ, ◌+◌, ◌≤◌, List, [], ◌∷◌, length, take}
use Rattle.std.specs.Prelude.{drop, reverse, Bool, true, false, not, ◌&&◌, ◌||◌, ◌==◌}
use Rattle.std.specs.Prelude.{Option, None, option_map, slice_index_or}
use Rattle.sigstore_tuf_text.specs.declared.piece.PatternPiece.{PatternPiece}
use Rattle.sigstore_tuf_text.specs.declared.piece.PatternPiece.TheVariants.{Run, Any, Same, Class}
use Rattle.sigstore_tuf_text.specs.declared.piece.ReadPiece.{ReadPiece}
use Rattle.sigstore_tuf_text.specs.Pattern.{Piece, run, one, any_character, is_member, Taken, closed_class, fits}

-- what `!` makes of the test of a class
abbrev pub turn_of : Bool → Bool → Bool
turn_of true = not
turn_of false = λ b. b

-- what a piece that was read means
abbrev pub piece_in : PatternPiece → Piece
piece_in Run = run
piece_in Any = one any_character
piece_in (Same c) = one (λ x. x == c)
piece_in (Class negated members) = one (λ c. turn_of negated (is_member members.items c))

-- whether a piece stands for that one character, but for a run
abbrev pub passes_of : Piece → ℕ → Bool
passes_of run c = false
passes_of (one test) c = test c

-- what was read, and what is left after it
abbrev pub read_of : ReadPiece → Piece × List ℕ
read_of read = (piece_in read.piece, read.rest.now)

abbrev pub left_of : List ℕ → Option Taken → Option (Piece × List ℕ)
left_of later taken = option_map (λ t. (t.0, drop t.1 later)) taken

-- the members of a class, and what is left after its `]`
abbrev pub closed_in : Bool → List ℕ → Option (Piece × List ℕ)
closed_in negated [] = None
closed_in negated (first ∷ later) = left_of (first ∷ later) (closed_class (turn_of negated) 1 first later)

-- whether a piece and later ones stand for the empty text, by whether the later ones do
abbrev pub begin_of : Piece → Bool → Bool
begin_of run later = later
begin_of (one test) later = false

-- Whether a piece and later ones stand for a text that begins with c: by whether they stand for it without c, and whether the later ones
-- alone do, without c and with it.
abbrev pub step_of : Piece → ℕ → Bool → Bool → Bool → Bool
step_of run c here without whole = whole || here
step_of (one test) c here without whole = test c && without

-- The row of pieces over a text, whose characters are given from the last to the first: its answer k says whether the pieces stand for
-- the last k characters.
pub record IsRow (pieces : List Piece) (back : List ℕ) (row : List Bool) : Type 0 where
  pub sized : length row ≡ length back + 1
  pub tells : (k : ℕ) → k ≤ length back → slice_index_or row k false ≡ fits pieces (reverse (take k back))
