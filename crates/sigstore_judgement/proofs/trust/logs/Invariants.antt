use Rattle.std.proofs.Common.{◌≡◌, [], drop}
use Rattle.sigstore_judgement.specs.Trust.{logs_added}
use Rattle.sigstore_judgement.proofs.trust.logs.Given as goal

-- adding all is adding those that are left
abbrev pub invariant-logs : goal.invariant-logs
invariant-logs l = logs_added l.kind l.list [] ≡ logs_added l.kind (drop l.log-index l.list) l.ring
