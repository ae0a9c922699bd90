-- Bytes as texts: base64 (RFC 4648, section 4) and hexadecimal.
use Rattle.std.specs.Prelude.{ℕ, List, length, nat_eq, if◌then◌else◌, Result, Ok, Err, ok_or}
use Rattle.std.specs.Result.{result_ok}
use Rattle.base64.specs.Engines.{standard}
use Rattle.base64.specs.GeneralPurpose.{decode_of}
use Rattle.hex.specs.Hex as hex
use Rattle.serde_json.specs.Data.{Data}
use Rattle.serde_json.specs.Find.{as_str}
use Rattle.foundation.specs.Steps.{◌>>=◌}
use Rattle.sigstore_types_parts.specs.declared.misread.Misread.{Misread}
use Rattle.sigstore_types_parts.specs.declared.misread.Misread.TheVariants as misread
use Rattle.sigstore_types_parts.specs.declared.error.TypesError.{TypesError}
use Rattle.sigstore_types_parts.specs.declared.error.TypesError.TheVariants.{Hex}
use Rattle.sigstore_types_parts.specs.Error.{types_of}

-- what a base64 text spells
abbrev pub decoded_of : {E : Type 0} → (Misread → E) → List ℕ → Result (List ℕ) E
decoded_of of text = ok_or (result_ok (decode_of standard text)) (of misread.Base64)

-- what a JSON text in base64 spells
abbrev pub bytes_of : {E : Type 0} → (Misread → E) → Data → Result (List ℕ) E
bytes_of of d = ok_or (as_str d) (of misread.Shape) >>= decoded_of of

-- bytes of that length
abbrev pub sized_of : {E : Type 0} → (Misread → E) → ℕ → List ℕ → Result (List ℕ) E
sized_of of n bytes = if nat_eq (length bytes) n then Ok bytes else Err (of (misread.Length n (length bytes)))

-- a hash of that many bytes in base64
abbrev pub hash_of : {E : Type 0} → (Misread → E) → ℕ → Data → Result (List ℕ) E
hash_of of n d = bytes_of of d >>= sized_of of n

-- a hash of that many bytes in hexadecimal, in either case
abbrev pub hex_of : ℕ → List ℕ → Result (List ℕ) TypesError
hex_of n text = ok_or (result_ok (hex.decode_of text)) Hex >>= sized_of types_of n
