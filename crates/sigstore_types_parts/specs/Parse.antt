-- From bytes to a JSON value (RFC 8259) in which every number is an integer.
use Rattle.std.specs.Prelude.{ℕ, List, length, Option, None, Result, Ok, Err, ok_or, if◌then◌else◌, ◌==◌}
use Rattle.std.specs.Str.Lossy.{utf8_valid_len}
use Rattle.serde_json.specs.Data.{Data}
use Rattle.serde_json.specs.Read.{read}
use Rattle.serde_json.specs.Written.{has_float}
use Rattle.foundation.specs.Steps.{◌>>=◌}
use Rattle.sigstore_types_parts.specs.declared.parse.JsonFault.{JsonFault}
use Rattle.sigstore_types_parts.specs.declared.parse.JsonFault.TheVariants.{NotJson, Float}

-- the value of bytes that are UTF-8
abbrev pub json_of_bytes : List ℕ → Option Data
json_of_bytes bytes = if utf8_valid_len bytes == length bytes then read bytes else None

-- JSON in which every number is an integer
unfoldable pub parsed_of : List ℕ → Result Data JsonFault
parsed_of bytes = do
  d ← ok_or (json_of_bytes bytes) NotJson
  if has_float d then Err Float else Ok d
