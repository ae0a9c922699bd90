use Rattle.std.proofs.Common.{◌≡◌, ◌++◌, drop}
use Rattle.sigstore_types.proofs.authority.copies.Given as goal

-- all are the copies and those that are left
abbrev pub invariant-certificates : goal.invariant-certificates
invariant-certificates l = l.certificates ≡ l.copies ++ drop l.certificate-index l.certificates
