use Rattle.std.proofs.Common.{◌≡◌, drop}
use Rattle.sigstore_judgement.specs.Trust.{certificates_added}
use Rattle.sigstore_judgement.proofs.trust.add_certificates.Given as goal

-- adding all is adding those that are left
abbrev pub invariant-certificates : goal.invariant-certificates
invariant-certificates l =
    certificates_added l.authority.valid_for l.authority.certificates l.initial.anchors ≡ certificates_added l.authority.valid_for (drop l.certificate-index l.authority.certificates) l.anchors
