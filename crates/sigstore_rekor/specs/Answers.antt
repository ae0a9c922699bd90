-- A log's answers: the status (RFC 9110, section 15.3), then the JSON text, then its grammar.
use Rattle.std.specs.Prelude.{ℕ, nat_lt, nat_le, List, ◌&&◌, if◌then◌else◌, Option, Result, Ok, Err, ok_or, ⊤}
use Rattle.std.specs.declared.num.NonZeroU8.{NonZeroU8}
use Rattle.serde_json.specs.Data.{Data, Members, no_members, member}
use Rattle.serde_json.specs.Find.{as_object}
use Rattle.foundation.specs.Steps.{◌>>=◌}
use Rattle.sigstore_types_parts.specs.Parse.{parsed_of}
use Rattle.sigstore_types_parts.specs.Read as read
use Rattle.sigstore_types_parts.specs.declared.parse.JsonFault.{JsonFault}
use Rattle.sigstore_types_parts.specs.declared.parse.JsonFault.TheVariants as parse
use Rattle.sigstore_entries.specs.Entry.{entry_of}
use Rattle.sigstore_entries.specs.Checkpoint.{checkpoint_of}
use Rattle.sigstore_entries.specs.declared.checkpoint.Checkpoint.{Checkpoint}
use Rattle.sigstore_entries.specs.declared.entry.TransparencyLogEntry.{TransparencyLogEntry}
use Rattle.sigstore_rekor_parts.specs.Error.{rekor_of}
use Rattle.sigstore_rekor_parts.specs.declared.error.ResponseRule.TheVariants as rule
use Rattle.sigstore_rekor_parts.specs.declared.error.Error.{Error}
use Rattle.sigstore_rekor_parts.specs.declared.error.Error.TheVariants.{Status, Json, InvalidResponse, NoMemory}
use Rattle.sigstore_rekor.specs.LogEntry.{uuid_of, unrefused, log_entry_of}
use Rattle.sigstore_rekor.specs.Validate.{validated_of}
use Rattle.sigstore_rekor.specs.declared.entry_uuid.EntryUuid.{EntryUuid}
use Rattle.sigstore_rekor.specs.declared.log_entry.LogEntry.{LogEntry}
use Rattle.sigstore_rekor.specs.declared.hashed_rekord_v2.HashedRekordV2.{HashedRekordV2}
use Rattle.sigstore_rekor.specs.declared.tile.RekorV2Tile.{RekorV2Tile}
use Rattle.sigstore_rekor.specs.declared.tile.RekorV2EntryBundle.{RekorV2EntryBundle}

-- a status from 200 up to 299
abbrev pub accepted_of : ℕ → Result ⊤ Error
accepted_of status = if nat_le 200 status && nat_lt status 300 then Ok tt else Err (Status status)

-- a float is outside the grammar of every answer
abbrev pub refused_fault : JsonFault → Error
refused_fault parse.NotJson = Json
refused_fault parse.Float = InvalidResponse rule.Float
refused_fault parse.NoMemory = NoMemory

abbrev pub unfaulted : Result Data JsonFault → Result Data Error
unfaulted (Ok d) = Ok d
unfaulted (Err fault) = Err (refused_fault fault)

-- the JSON value of an answer
unfoldable pub answer_of : ℕ → List ℕ → Result Data Error
answer_of status bytes = accepted_of status >>= λ _. unfaulted (parsed_of bytes)

-- ---- entries

abbrev pub named_of : List ℕ → Data → Result LogEntry Error
named_of name d = log_entry_of d >>= λ entry. Ok (record {
  uuid = record { text = name };
  body = entry.body;
  integrated_time = entry.integrated_time;
  log_id = entry.log_id;
  log_index = entry.log_index;
  verification = entry.verification;
})

-- exactly one entry, under its name
abbrev pub single_in : Members → Result LogEntry Error
single_in no_members = Err (InvalidResponse rule.Entries)
single_in (member name d no_members) = named_of name d
single_in (member name d (member other e others)) = Err (InvalidResponse rule.Entries)

unfoldable pub single_of : Data → Result LogEntry Error
single_of d = ok_or (as_object d) (InvalidResponse rule.Shape) >>= single_in

abbrev pub entry_answer_of : ℕ → List ℕ → Result LogEntry Error
entry_answer_of status bytes = answer_of status bytes >>= single_of

-- a list of names
abbrev pub search_answer_of : ℕ → List ℕ → Result (List EntryUuid) Error
search_answer_of status bytes = answer_of status bytes >>= read.sequence_of rekor_of uuid_of

-- ---- entries of logs of the second version, which are those of bundles

abbrev pub v2_entry_of : Data → Result TransparencyLogEntry Error
v2_entry_of d = unrefused (entry_of d)

-- an entry of what was sent
unfoldable pub valid_of : HashedRekordV2 → TransparencyLogEntry → Result TransparencyLogEntry Error
valid_of request entry = validated_of entry request >>= λ _. Ok entry

abbrev pub v2_entry_answer_of : ℕ → List ℕ → HashedRekordV2 → Result TransparencyLogEntry Error
v2_entry_answer_of status bytes request = do
  d ← answer_of status bytes
  entry ← v2_entry_of d
  valid_of request entry

-- ---- answers that are no JSON

abbrev pub checkpoint_in : List ℕ → Result Checkpoint Error
checkpoint_in bytes = unrefused (checkpoint_of bytes)

abbrev pub checkpoint_answer_of : ℕ → List ℕ → Result Checkpoint Error
checkpoint_answer_of status bytes = accepted_of status >>= λ _. checkpoint_in bytes

-- the octets as they are, with what was asked for
abbrev pub tile_answer_of : ℕ → List ℕ → ℕ → ℕ → Option NonZeroU8 → Result RekorV2Tile Error
tile_answer_of status bytes level index width =
    accepted_of status >>= λ _. Ok (record { level = level; index = index; width = width; bytes = bytes })

abbrev pub bundle_answer_of : ℕ → List ℕ → ℕ → Option NonZeroU8 → Result RekorV2EntryBundle Error
bundle_answer_of status bytes index width =
    accepted_of status >>= λ _. Ok (record { index = index; width = width; bytes = bytes })
