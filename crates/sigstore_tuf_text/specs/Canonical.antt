-- What `to_canonical_bytes` answers, want of memory aside.
use Rattle.std.specs.Prelude.{ℕ, List, if◌then◌else◌, Result, Ok, Err}
use Rattle.serde_json.specs.Data.{Data}
use Rattle.serde_json.specs.Written.{has_float}
use Rattle.sigstore_tuf_text.specs.Canon.{canon}
use Rattle.sigstore_tuf_text.specs.declared.error.Error.{Error}
use Rattle.sigstore_tuf_text.specs.declared.error.Error.TheVariants.{NonIntegerNumber}

-- the canonical text, or the refusal of a float
abbrev pub canonical_of : Data → Result (List ℕ) Error
canonical_of d = if has_float d then Err NonIntegerNumber else Ok (canon d)
