use Rattle.std.proofs.Common.{arith}
use Rattle.std.specs.Path.{slash}
use Rattle.sigstore_tuf_rules.proofs.LastPart.{last_part_is}
use Rattle.sigstore_tuf_rules.proofs.names.last_part.Goals as goal

pub returns : goal.returns
returns g = last_part_is slash g.args.path.now _ g.rsplit_once.ensures.cases (omega arith)
