-- What holds of a level of ways.
use Rattle.std.specs.Prelude.{◌≡◌, ℕ, ◌≤◌, All, List, length, Option}
use Rattle.std.specs.Option.{option_or}
use Rattle.path_core.specs.declared.route.Route.{Route}
use Rattle.path_core.specs.declared.level.Level.{Level}
use Rattle.path_core.specs.declared.way.Way.{Way}
use Rattle.path_core.specs.Paths.{Setting}
use Rattle.path_core.specs.Search.{over_ways, AreCovered}

-- there is a mark for each position, each way has a source, and each marked position ends a way
pub record IsLevel (positions : ℕ) (level : Level) : Type 0 where
  pub marks : length level.reached.items ≡ positions
  pub sources : All (λ way. way.source ≤ positions) level.ways.items
  pub covered : AreCovered level.reached.items level.ways.items

-- the new ways find what the old ones do, and else what was added
abbrev pub Adds : Setting → ℕ → ℕ → List Way → List Way → Option Route → Type 0
Adds w r below old new added = option_or (over_ways w r below old) added ≡ over_ways w r below new
