use Rattle.std.proofs.Common.{◌≡◌, drop, None}
use Rattle.sigstore_judgement.specs.Evidence.{earliest_from}
use Rattle.sigstore_judgement.proofs.evidence.earliest.Given as goal

-- the earliest of all is the earlier of what was seen and of those that are left
abbrev pub invariant-times : goal.invariant-times
invariant-times l = earliest_from None l.times ≡ earliest_from l.first (drop l.time-index l.times)
