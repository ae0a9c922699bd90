use Rattle.std.proofs.Common.{◌≡◌, rules, refl}
use Rattle.sigstore_merkle.specs.Collision.{IsComparable}
use Rattle.sigstore_merkle.proofs.Joint.{shown_is}
use Rattle.sigstore_merkle.proofs.collision.find_difference.Goals as goal

pub returns-clause-found : goal.returns-clause-found
returns-clause-found c =
    let comparable : IsComparable c.args.a.now c.args.b.now = c.are_comparable.ensures.0 (search rules) in
    let same : c.climbed_together-climb.result.a ≡ c.climbed_together-climb.result.b = search rules in
    shown_is c.args.a.now c.args.b.now c.climbed_together-climb.result _ _ _ comparable c.climbed_together-climb.ensures same refl refl refl
