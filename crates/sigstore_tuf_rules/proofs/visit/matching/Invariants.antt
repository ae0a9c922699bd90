use Rattle.std.proofs.Common.{◌≡◌, drop, Ok}
use Rattle.foundation.specs.Steps.{◌>>=◌}
use Rattle.sigstore_tuf_rules.specs.Order.{matching}
use Rattle.sigstore_tuf_rules.proofs.NextNames.{after_names}
use Rattle.sigstore_tuf_rules.proofs.visit.matching.Given as goal

-- the delegations that match are those found so far, and then those of the rest
abbrev pub invariant-loop-role : goal.invariant-loop-role
invariant-loop-role l = matching l.path (drop l.role-index l.roles) >>= (λ next. Ok (after_names l.names next)) ≡ matching l.path l.roles
