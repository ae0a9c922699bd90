-- Bodies of log entries, by kind and version (Rekor, "pluggable types").
use Rattle.std.specs.Prelude.{ℕ, List, Result, Ok, Err}
use Rattle.serde_json.specs.Data.{Data}
use Rattle.foundation.specs.Steps.{◌>>=◌}
use Rattle.sigstore_types_parts.specs.Parse.{parsed_of}
use Rattle.sigstore_types_parts.specs.declared.parse.JsonFault.{JsonFault}
use Rattle.sigstore_types_parts.specs.declared.parse.JsonFault.TheVariants as parse
use Rattle.sigstore_types_parts.specs.declared.error.TypesError.{TypesError}
use Rattle.sigstore_entries.specs.Entry.{kind_named}
use Rattle.sigstore_entries.specs.declared.kind_version.KindVersion.{KindVersion}
use Rattle.sigstore_entries.specs.declared.kind_version.KindVersion.TheVariants as kind
use Rattle.sigstore_rekor_parts.specs.HashedRekord.{hashed_rekord_v001_of, hashed_rekord_v002_of}
use Rattle.sigstore_rekor_parts.specs.Dsse.{dsse_v001_of, dsse_v002_of}
use Rattle.sigstore_rekor_parts.specs.Intoto.{intoto_v002_of}
use Rattle.sigstore_rekor_parts.specs.declared.error.ResponseRule.TheVariants as rule
use Rattle.sigstore_rekor_parts.specs.declared.error.Error.{Error}
use Rattle.sigstore_rekor_parts.specs.declared.error.Error.TheVariants.{InvalidResponse, NoMemory}
use Rattle.sigstore_rekor_parts.specs.declared.body.RekorEntryBody.{RekorEntryBody}
use Rattle.sigstore_rekor_parts.specs.declared.body.RekorEntryBody.TheVariants as body

-- a fault of a body's JSON text: what isn't JSON, or has a float, is outside the grammar of every kind
abbrev pub rekor_of_fault : JsonFault → Error
rekor_of_fault parse.NotJson = InvalidResponse rule.NotJson
rekor_of_fault parse.Float = InvalidResponse rule.Float
rekor_of_fault parse.NoMemory = NoMemory

abbrev pub body_json_in : Result Data JsonFault → Result Data Error
body_json_in (Ok d) = Ok d
body_json_in (Err fault) = Err (rekor_of_fault fault)

-- the JSON value of a body
abbrev pub body_json_of : List ℕ → Result Data Error
body_json_of bytes = body_json_in (parsed_of bytes)

-- the body of a kind
unfoldable pub body_of_value : KindVersion → Data → Result RekorEntryBody Error
body_of_value kind.HashedRekordV001 d = hashed_rekord_v001_of d >>= λ x. Ok (body.HashedRekordV001 x)
body_of_value kind.HashedRekordV002 d = hashed_rekord_v002_of d >>= λ x. Ok (body.HashedRekordV002 x)
body_of_value kind.DsseV001 d = dsse_v001_of d >>= λ x. Ok (body.DsseV001 x)
body_of_value kind.DsseV002 d = dsse_v002_of d >>= λ x. Ok (body.DsseV002 x)
body_of_value kind.IntotoV002 d = intoto_v002_of d >>= λ x. Ok (body.IntotoV002 x)

-- the body of a kind from its bytes
unfoldable pub body_of : KindVersion → List ℕ → Result RekorEntryBody Error
body_of kind bytes = body_json_of bytes >>= body_of_value kind

-- a kind that is known, or Kind
abbrev pub known_in : Result KindVersion TypesError → Result KindVersion Error
known_in (Ok kind) = Ok kind
known_in (Err e) = Err (InvalidResponse rule.Kind)

abbrev pub known_of : List ℕ → List ℕ → Result KindVersion Error
known_of kind version = known_in (kind_named kind version)

-- the body of a kind and version by their names; the bytes of an unknown kind aren't looked at
unfoldable pub body_named : List ℕ → List ℕ → List ℕ → Result RekorEntryBody Error
body_named kind version bytes = known_of kind version >>= λ known. body_of known bytes
