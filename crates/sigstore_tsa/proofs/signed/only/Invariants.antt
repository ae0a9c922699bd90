use Rattle.std.proofs.Common.{◌≡◌, None, drop}
use Rattle.std.specs.Prelude.{option_copied}
use Rattle.sigstore_tsa.specs.Signer.{only_from}
use Rattle.sigstore_tsa.proofs.signed.only.Given as goal

-- looking through all is looking through what is left, with what was found
abbrev pub invariant-attributes : goal.invariant-attributes
invariant-attributes l = only_from l.oid None l.attributes ≡ only_from l.oid (option_copied l.found) (drop l.attribute-index l.attributes)
