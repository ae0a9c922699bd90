use Rattle.std.proofs.Common.{◌≡◌, [], ◌∷◌, ◌++◌, drop, Ok}
use Rattle.std.specs.Prelude.{IfSome}
use Rattle.sigstore_certificate.specs.Certified.{at_each}
use Rattle.sigstore_certificate.specs.Given.{issuer_in}
use Rattle.sigstore_certificate.specs.Times.{AreIssued}
use Rattle.sigstore_certificate.proofs.times.issuer_before.Given as goal

-- judging at all times is judging at those that are left; at those that were judged there is a key; and that of the last is its own
abbrev pub invariant-times : goal.invariant-times
invariant-times g l =
    (at_each (issuer_in g.C.CryptoProvider.accepts l.given) (l.earlier ++ l.last ∷ []) []
    ≡ at_each (issuer_in g.C.CryptoProvider.accepts l.given) (drop l.time-index l.earlier ++ l.last ∷ []) [])
    × AreIssued (issuer_in g.C.CryptoProvider.accepts l.given) l.judged.keys
    × IfSome l.issuer (λ key. issuer_in g.C.CryptoProvider.accepts l.given l.last ≡ Ok key)
