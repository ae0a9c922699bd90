use Rattle.std.proofs.Common.{◌≡◌, ◌-◌, length}
use Rattle.path_core.specs.Search.{setting_of, first_from, over_anchor}
use Rattle.path_core.specs.Judged.{Keeps, Decides}
use Rattle.path_core.proofs.level.first_anchor.Given as goal

abbrev pub invariant-anchors : goal.invariant-anchors
invariant-anchors g l =
    let w = setting_of g.C.CryptoProvider.accepts l.given in
    Keeps w l.initial.made l.made
    × Decides w l.made (λ v. first_from (over_anchor v l.way) l.a (l.a-end - l.a) ≡ first_from (over_anchor v l.way) 0 (length l.given.anchors.now))
