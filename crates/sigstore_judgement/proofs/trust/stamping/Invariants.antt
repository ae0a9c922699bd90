use Rattle.std.proofs.Common.{◌≡◌, ◌++◌, drop}
use Rattle.sigstore_judgement.specs.Trust.{stamping_among}
use Rattle.sigstore_judgement.proofs.trust.stamping.Given as goal

-- all are those that were found and those among what is left
abbrev pub invariant-authorities : goal.invariant-authorities
invariant-authorities l = stamping_among l.list ≡ l.stamping ++ stamping_among (drop l.authority-index l.list)
