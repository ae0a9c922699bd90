use Rattle.std.proofs.Common.{◌≡◌, ◌++◌, Ok, drop}
use Rattle.foundation.specs.Steps.{◌>>=◌}
use Rattle.sigstore_types.specs.TrustedRoot.{each_stamping}
use Rattle.sigstore_types.proofs.trusted_root.TrustedRoot.tsa_authorities.Given as goal

-- reading all is reading what is left, after what was found
abbrev pub invariant-authorities : goal.invariant-authorities
invariant-authorities l =
    each_stamping l.authority-items ≡ (each_stamping (drop l.authority-index l.authority-items) >>= λ rest. Ok (l.list ++ rest))
