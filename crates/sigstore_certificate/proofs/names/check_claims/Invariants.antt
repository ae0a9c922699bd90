use Rattle.std.proofs.Common.{◌≡◌, drop}
use Rattle.sigstore_certificate.specs.Names.{claims_judged}
use Rattle.sigstore_certificate.proofs.names.check_claims.Given as goal

-- all are told where those that are left are
abbrev pub invariant-claims : goal.invariant-claims
invariant-claims l = claims_judged l.asked l.claims ≡ claims_judged (drop l.claim-index l.asked) l.claims
