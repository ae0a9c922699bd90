-- Where files are put, each whole or not at all: what a call promises.
use Rattle.std.specs.Prelude.{◌≡◌, ℕ, ◌≤◌, List, [], ◌∷◌, ◌++◌, Option, option_map, Result, Ok, Err, IfErr}
use Rattle.foundation.specs.Watched.{Watched, Rose}
use Rattle.command_download.specs.declared.shelf.Placed.{Placed}
use Rattle.command_download.specs.declared.shelf.ShelfFault.{ShelfFault}
use Rattle.command_download.specs.declared.shelf.ShelfFault.TheVariants.{Failed}

-- a file by its name
abbrev pub placed : List ℕ → List ℕ → Placed
placed path bytes = record { path = path; bytes = bytes }

-- the told files with these behind them
abbrev pub with_files : Option (List Placed) → List Placed → Option (List Placed)
with_files told files = option_map (λ before. before ++ files) told

-- the file is put in place whole, or nothing is
abbrev pub Puts : {T : Type 0} → Option (List Placed) → Option (List Placed) → List ℕ → List ℕ → Result T ShelfFault → Type 0
Puts old new path bytes (Ok x) = new ≡ with_files old (placed path bytes ∷ [])
Puts old new path bytes (Err e) = new ≡ old

-- the promise of a placing
pub record Places {T : Type 0} (old new : Watched (List Placed)) (path bytes : List ℕ) (result : Result T ShelfFault) : Type 0 where
  pub later : old.faults ≤ new.faults
  pub failed : IfErr result (λ e. e ≡ Failed → Rose old.faults new.faults)
  pub puts : Puts old.told new.told path bytes result
