-- What the code keeps of a pattern, and the rows by which it matches. Nobody has to believe this: what a pattern means is in Pattern.
use Rattle.std.specs.Prelude.{◌≡◌, ℕ, ◌+◌, ◌≤◌, List, length, take, reverse, Bool, false, ◌&&◌, ◌||◌, ◌==◌, slice_index_or}
use Rattle.sigstore_policy.specs.declared.pattern.PatternPiece.{PatternPiece}
use Rattle.sigstore_policy.specs.declared.pattern.PatternPiece.TheVariants.{AnyRun, RunWithin, AnyWithin, Same}
use Rattle.sigstore_policy.specs.Pattern.{Piece, run, one, any_octet, no_slash, fits}

-- what a piece that was read means
abbrev pub piece_in : PatternPiece → Piece
piece_in AnyRun = run any_octet
piece_in RunWithin = run no_slash
piece_in AnyWithin = one no_slash
piece_in (Same c) = one (λ x. x == c)

-- whether a piece stands for nothing before what later ones stand for
abbrev pub begin_of : Piece → Bool → Bool
begin_of (run test) later = later
begin_of (one test) later = false

-- whether an octet passes a piece's test
abbrev pub passes_of : Piece → ℕ → Bool
passes_of (run test) c = test c
passes_of (one test) c = test c

-- Whether a piece and later ones stand for a text that begins with c: by whether they stand for it without c, and whether the later ones
-- alone do, without c and with it.
abbrev pub step_of : Piece → ℕ → Bool → Bool → Bool → Bool
step_of (run test) c here without whole = whole || (test c && here)
step_of (one test) c here without whole = test c && without

-- The row of pieces over a text, whose octets are given from the last to the first: its answer k says whether the pieces stand for the
-- last k octets.
pub record IsRow (pieces : List Piece) (back : List ℕ) (row : List Bool) : Type 0 where
  pub sized : length row ≡ length back + 1
  pub tells : (k : ℕ) → k ≤ length back → slice_index_or row k false ≡ fits pieces (reverse (take k back))
