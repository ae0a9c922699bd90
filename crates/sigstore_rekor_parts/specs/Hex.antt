-- What a text in hexadecimal spells, in either case (RFC 4648, section 8).
use Rattle.std.specs.Prelude.{ℕ, List, Result, ok_or}
use Rattle.std.specs.Result.{result_ok}
use Rattle.hex.specs.Hex as hex
use Rattle.sigstore_types_parts.specs.declared.error.TypesError.{TypesError}
use Rattle.sigstore_types_parts.specs.declared.error.TypesError.TheVariants.{Hex}

abbrev pub unhexed_of : List ℕ → Result (List ℕ) TypesError
unhexed_of text = ok_or (result_ok (hex.decode_of text)) Hex
