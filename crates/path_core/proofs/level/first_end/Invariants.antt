use Rattle.std.proofs.Common.{◌≡◌, ℕ, drop}
use Rattle.path_core.specs.Search.{setting_of, over_ways}
use Rattle.path_core.specs.Judged.{Keeps, Decides}
use Rattle.path_core.proofs.level.first_end.Given as goal

abbrev pub invariant-ways : goal.invariant-ways
invariant-ways g l =
    let w = setting_of g.C.CryptoProvider.accepts l.given in
    Keeps w l.initial.made l.made
    × Decides w l.made (λ v. (below : ℕ) → over_ways v 0 below (drop l.way-index l.level.ways.items) ≡ over_ways v 0 below l.level.ways.items)
