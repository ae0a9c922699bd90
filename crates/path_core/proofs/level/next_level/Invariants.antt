use Rattle.std.proofs.Common.{◌≡◌, ℕ, suc, ◌+◌, length, drop}
use Rattle.std.specs.Option.{option_or}
use Rattle.path_core.specs.Search.{setting_of, over_ways}
use Rattle.path_core.specs.Judged.{Keeps, Decides}
use Rattle.path_core.specs.Level.{IsLevel}
use Rattle.path_core.proofs.level.next_level.Given as goal

-- the next level and the ways that are left find what the whole level does
abbrev pub invariant-ways : goal.invariant-ways
invariant-ways g l =
    let w = setting_of g.C.CryptoProvider.accepts l.given in
    Keeps w l.initial.made l.made
    × IsLevel (length l.given.intermediates.now) l.next
    × Decides w l.made (λ v. (r : ℕ) → option_or (over_ways v r (l.below + 1) l.next.ways.items) (over_ways v (suc r) l.below (drop l.way-index l.level.ways.items)) ≡ over_ways v (suc r) l.below l.level.ways.items)
