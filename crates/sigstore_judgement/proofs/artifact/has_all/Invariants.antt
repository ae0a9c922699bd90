use Rattle.std.proofs.Common.{◌≡◌, drop}
use Rattle.std.specs.List.{list_all}
use Rattle.sigstore_judgement.specs.Artifact.{kind_in}
use Rattle.sigstore_judgement.proofs.artifact.has_all.Given as goal

abbrev pub invariant-each : goal.invariant-each
invariant-each l = list_all (kind_in l.handed).has l.needed ≡ list_all (kind_in l.handed).has (drop l.algorithm-index l.needed)
