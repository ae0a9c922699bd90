use Rattle.std.proofs.Common.{◌≡◌, drop}
use Rattle.sigstore_judgement.specs.Conditions.{each_within}
use Rattle.sigstore_judgement.proofs.conditions.check_each.Given as goal

-- all are within where those that are left are
abbrev pub invariant-times : goal.invariant-times
invariant-times l = each_within l.asked l.times ≡ each_within l.asked (drop l.time-index l.times)
