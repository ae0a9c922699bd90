-- Entries as the API of Rekor's first version tells them (Rekor, "LogEntry").
use Rattle.std.specs.Prelude.{ℕ, ℤ, ◌^◌, nat_lt, List, [], if◌then◌else◌, Option, Some, None, option_and_then, Result, Ok, Err, ok_or}
use Rattle.std.specs.Result.{result_ok}
use Rattle.serde_json.specs.Data.{Data}
use Rattle.serde_json.specs.Find.{as_number, as_i64}
use Rattle.serde_json.specs.Written.{has_float}
use Rattle.foundation.specs.Steps.{◌>>=◌}
use Rattle.sigstore_types_parts.specs.Read as read
use Rattle.sigstore_types_parts.specs.Encoded.{hex_of}
use Rattle.sigstore_types_parts.specs.declared.error.TypesError.{TypesError}
use Rattle.sigstore_entries.specs.Numbers.{place_of}
use Rattle.sigstore_rekor_parts.specs.Error.{rekor_of}
use Rattle.sigstore_rekor_parts.specs.Members.{required, optional, text, bytes, list}
use Rattle.sigstore_rekor_parts.specs.declared.member.RekorMember.TheVariants as m
use Rattle.sigstore_rekor_parts.specs.declared.error.ResponseRule.TheVariants as rule
use Rattle.sigstore_rekor_parts.specs.declared.error.Error.{Error}
use Rattle.sigstore_rekor_parts.specs.declared.error.Error.TheVariants.{InvalidResponse}
use Rattle.sigstore_rekor.specs.Refused.{refused_of}
use Rattle.sigstore_rekor.specs.declared.entry_uuid.EntryUuid.{EntryUuid}
use Rattle.sigstore_rekor.specs.declared.number.Placed.{Placed}
use Rattle.sigstore_rekor.specs.declared.number.Seconds.{Seconds}
use Rattle.sigstore_rekor.specs.declared.number.TreeSize.{TreeSize}
use Rattle.sigstore_rekor.specs.declared.log_entry.RekorInclusionProof.{RekorInclusionProof}
use Rattle.sigstore_rekor.specs.declared.log_entry.Verification.{Verification}
use Rattle.sigstore_rekor.specs.declared.log_entry.LogEntry.{LogEntry}

-- a name of an entry
unfoldable pub uuid_of : Data → Result EntryUuid Error
uuid_of d = do
  name ← text d
  Ok (record { text = name })

-- a place in a log, below 2^63: an integer or a text that writes one
unfoldable pub placed_of : Data → Result Placed Error
placed_of d = do
  index ← ok_or (result_ok (place_of d)) (InvalidResponse rule.Shape)
  Ok (record { index = index })

-- an integer from -2^63 up to 2^63 - 1, of seconds since 1970
unfoldable pub seconds_of : Data → Result Seconds Error
seconds_of d = do
  seconds ← ok_or (option_and_then as_i64 (as_number d)) (InvalidResponse rule.Shape)
  Ok (record { seconds = seconds })

-- how many entries a tree has: an integer below 2^63, as a bundle tells it
unfoldable pub tree_size_of : Data → Result TreeSize Error
tree_size_of d = do
  size ← read.u64_of rekor_of d
  if nat_lt size (2 ^ 63) then Ok (record { size = size }) else Err (InvalidResponse rule.Shape)

abbrev pub time_of : Option Seconds → Option ℤ
time_of None = None
time_of (Some time) = Some time.seconds

abbrev pub unrefused : {T : Type 0} → Result T TypesError → Result T Error
unrefused (Ok x) = Ok x
unrefused (Err e) = Err (refused_of e)

-- 32 bytes in hexadecimal
unfoldable pub hex_hash_of : Data → Result (List ℕ) Error
hex_hash_of d = text d >>= λ digits. unrefused (hex_of 32 digits)

-- the checkpoint is any text
unfoldable pub proof_of : Data → Result RekorInclusionProof Error
proof_of d = do
  checkpoint ← required text m.Checkpoint d
  hashes ← list hex_hash_of m.Hashes d
  place ← required placed_of m.LogIndex d
  root ← required hex_hash_of m.RootHash d
  tree ← required tree_size_of m.TreeSize d
  Ok (record { checkpoint = checkpoint; hashes = hashes; log_index = place.index; root_hash = root; tree_size = tree.size })

unfoldable pub verification_of : Data → Result Verification Error
verification_of d = do
  proof ← optional proof_of m.InclusionProof d
  promise ← optional bytes m.SignedEntryTimestamp d
  Ok (record { inclusion_proof = proof; signed_entry_timestamp = promise })

-- an entry without its name; the log's id is any text, and other members are passed over
unfoldable pub log_entry_of : Data → Result LogEntry Error
log_entry_of d = do
  body ← required bytes m.Body d
  seconds ← optional seconds_of m.IntegratedTime d
  log_id ← required text m.LogId d
  place ← required placed_of m.LogIndex d
  verification ← optional verification_of m.Verification d
  Ok (record {
    uuid = record { text = [] };
    body = body;
    integrated_time = time_of seconds;
    log_id = log_id;
    log_index = place.index;
    verification = verification;
  })

-- the same of a value of which nothing is known: no number in it is a float
unfoldable pub log_entry_of_value : Data → Result LogEntry Error
log_entry_of_value d = if has_float d then Err (InvalidResponse rule.Float) else log_entry_of d
