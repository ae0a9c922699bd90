use Rattle.std.proofs.Common.{◌≡◌, ℕ, ◌+◌, ◌-◌, length}
use Rattle.std.specs.Option.{option_or}
use Rattle.path_core.specs.Search.{setting_of, first_from, over_ways, over_next}
use Rattle.path_core.specs.Judged.{Keeps, Decides}
use Rattle.path_core.specs.Level.{IsLevel}
use Rattle.path_core.proofs.level.add_all.Given as goal

-- what the level has and what is left to add find what the level had and the whole way do
abbrev pub invariant-positions : goal.invariant-positions
invariant-positions g l =
    let w = setting_of g.C.CryptoProvider.accepts l.given in
    Keeps w l.initial.made l.made
    × IsLevel (length l.given.intermediates.now) l.next
    × Decides w l.made (λ v. (r : ℕ) → option_or (over_ways v r (l.below + 1) l.next.ways.items) (first_from (over_next v r l.below l.way) l.position (l.position-end - l.position))
    ≡ option_or (over_ways v r (l.below + 1) l.initial.next.ways.items) (first_from (over_next v r l.below l.way) 0 (length l.given.intermediates.now)))
