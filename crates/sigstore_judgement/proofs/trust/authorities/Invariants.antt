use Rattle.std.proofs.Common.{◌≡◌, [], drop}
use Rattle.sigstore_judgement.specs.Trust.{authorities_added}
use Rattle.sigstore_judgement.proofs.trust.authorities.Given as goal

-- adding all is adding those that are left
abbrev pub invariant-authorities : goal.invariant-authorities
invariant-authorities l = authorities_added l.list [] ≡ authorities_added (drop l.authority-index l.list) l.anchors
