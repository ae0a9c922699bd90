use Rattle.std.proofs.Common.{◌≡◌, ℕ, ◌+◌, ◌<◌, length, None}
use Rattle.path_core.specs.Search.{setting_of, best, over_ways}
use Rattle.path_core.specs.Judged.{Keeps, Decides}
use Rattle.path_core.specs.Level.{IsLevel}
use Rattle.path_core.proofs.find.search.Given as goal

-- the level finds the best paths, and no shorter path is there
abbrev pub invariant-levels : goal.invariant-levels
invariant-levels g l =
    let w = setting_of g.C.CryptoProvider.accepts l.given in
    let n = length l.given.intermediates.now in
    Keeps w l.initial.made l.made
    × IsLevel n l.level
    × Decides w l.made (λ v. (r : ℕ) → over_ways v r l.below l.level.ways.items ≡ best v (l.below + r) 0 n)
    × Decides w l.made (λ v. (c : ℕ) → c < l.below → best v c 0 n ≡ None)
