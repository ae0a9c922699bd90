-- A value takes at least one octet.
use Rattle.std.proofs.Common.{◌≡◌, ℕ, ◌<◌, List, ◌++◌, length, ap, arith}
use Rattle.std.proofs.lemmas.List.{length-append}
use Rattle.der_grammar.specs.Tlv.{tlv}

pub some_tlv : (tag : ℕ) (value : List ℕ) → 0 < length (tlv tag value)
unfolding tlv
some_tlv tag value = omega arith

pub behind-tlv : (bytes whole rest value : List ℕ) (tag : ℕ) → bytes ≡ whole ++ rest → whole ≡ tlv tag value → length rest < length bytes
behind-tlv bytes whole rest value tag e w = omega (arith, ap length e, length-append whole rest, ap length w, some_tlv tag value)
