use Rattle.std.proofs.Common.{◌≡◌, drop}
use Rattle.std.specs.Str.{str_eq_ignore_ascii_case}
use Rattle.hex.specs.Hex.{encode_lower}
use Rattle.sigstore_envelopes.proofs.spelled.spells.Given as goal

-- the whole is spelled exactly where what is left of it is
abbrev pub invariant-octets : goal.invariant-octets
invariant-octets l =
    str_eq_ignore_ascii_case l.text (encode_lower l.octets) ≡ str_eq_ignore_ascii_case l.rest (encode_lower (drop l.octet-index l.octets))
