use Rattle.std.proofs.Common.{◌≡◌, ap, ◌∙◌, to_z, of_z}
use Rattle.std.specs.Int.{w128}
use Rattle.std.proofs.lemmas.Int.{to_z-of_z}
use Rattle.sigstore_types_parts.specs.Instant.{nearest}
use Rattle.sigstore_types_parts.proofs.Instants.{at_once}
use Rattle.sigstore_types_parts.proofs.moment.at_nanosecond.Goals as goal

pub returns : goal.returns
returns c =
    let same : to_z w128 (of_z w128 c.args.nanosecond) ≡ c.args.nanosecond = to_z-of_z w128 c.args.nanosecond c.ranges.nanosecond in
    at_once c.nearest_instant.result c.args.nanosecond (c.nearest_instant.ensures ∙ ap nearest same)
