-- Entries of transparency logs as JSON (Sigstore protobuf specs, sigstore_rekor.proto).
use Rattle.std.specs.Prelude.{ℕ, ◌==◌, List, [], length, codes, bytes_eq, Bool, ◌&&◌, if◌then◌else◌}
use Rattle.std.specs.Prelude.{Option, Some, None, Result, Ok, Err}
use Rattle.serde_json.specs.Data.{Data}
use Rattle.serde_json.specs.Written.{has_float}
use Rattle.foundation.specs.Steps.{◌>>=◌}
use Rattle.sigstore_types_parts.specs.Read as read
use Rattle.sigstore_types_parts.specs.Encoded as encoded
use Rattle.sigstore_types_parts.specs.Error.{types_of, types_of_fault, placed_at, name_of}
use Rattle.sigstore_types_parts.specs.Parse.{parsed_of}
use Rattle.sigstore_types_parts.specs.declared.member.TypesMember.{TypesMember}
use Rattle.sigstore_types_parts.specs.declared.member.TypesMember.TheVariants as m
use Rattle.sigstore_types_parts.specs.declared.parse.JsonFault.{JsonFault}
use Rattle.sigstore_types_parts.specs.declared.error.TypesError.{TypesError}
use Rattle.sigstore_types_parts.specs.declared.error.TypesError.TheVariants as e
use Rattle.sigstore_entries.specs.Numbers.{place_of, time_of, known_time_of, or_first}
use Rattle.sigstore_entries.specs.Checkpoint.{checkpoint_of}
use Rattle.sigstore_entries.specs.declared.checkpoint.Checkpoint.{Checkpoint}
use Rattle.sigstore_entries.specs.declared.checkpoint_data.CheckpointData.{CheckpointData}
use Rattle.sigstore_entries.specs.declared.inclusion_proof.InclusionProof.{InclusionProof}
use Rattle.sigstore_entries.specs.declared.kind_version.KindVersion.{KindVersion}
use Rattle.sigstore_entries.specs.declared.kind_version.KindVersion.TheVariants as known
use Rattle.sigstore_entries.specs.declared.log_id.LogId.{LogId}
use Rattle.sigstore_entries.specs.declared.log_index.LogIndex.{LogIndex}
use Rattle.sigstore_entries.specs.declared.entry.Placed.{Placed}
use Rattle.sigstore_entries.specs.declared.entry.InclusionPromise.{InclusionPromise}
use Rattle.sigstore_entries.specs.declared.entry.TransparencyLogEntry.{TransparencyLogEntry}

-- ---- the text

-- a fault of the JSON text as a refusal
abbrev pub faulted : Result Data JsonFault → Result Data TypesError
faulted (Ok d) = Ok d
faulted (Err fault) = Err (types_of_fault fault)

-- the JSON value of bytes: Json, then Float
abbrev pub json : List ℕ → Result Data TypesError
json bytes = faulted (parsed_of bytes)

-- ---- members

-- a member that is there; absent or of another JSON type, it is Field of that member
abbrev pub required : {T : Type 0} → (Data → Result T TypesError) → TypesMember → Data → Result T TypesError
required reads m = read.required_of types_of (placed_at m) reads (name_of m)

-- a member that may be absent or null
abbrev pub optional : {T : Type 0} → (Data → Result T TypesError) → TypesMember → Data → Result (Option T) TypesError
optional reads m = read.optional_of types_of (placed_at m) reads (name_of m)

abbrev pub text : Data → Result (List ℕ) TypesError
text = read.text_of types_of

abbrev pub bytes : Data → Result (List ℕ) TypesError
bytes = encoded.bytes_of types_of

-- a SHA-256 value
abbrev pub sha256 : Data → Result (List ℕ) TypesError
sha256 = encoded.hash_of types_of 32

-- a place; absent or null, it is 0
abbrev pub place : TypesMember → Data → Result LogIndex TypesError
place m d = optional place_of m d >>= λ found. Ok (or_first found)

abbrev pub or_empty : {T : Type 0} → Option (List T) → List T
or_empty None = []
or_empty (Some items) = items

-- a list; absent or null, it is empty
abbrev pub list : {T : Type 0} → (Data → Result T TypesError) → TypesMember → Data → Result (List T) TypesError
list reads m d = optional (read.sequence_of types_of reads) m d >>= λ items. Ok (or_empty items)

-- ---- the log, and the kind of an entry

unfoldable pub log_id_of : Data → Result LogId TypesError
log_id_of d = do
  key_id ← required bytes m.KeyId d
  Ok (record { key_id = key_id })

abbrev pub kind_name_of : KindVersion → List ℕ
kind_name_of known.HashedRekordV001 = codes "hashedrekord"
kind_name_of known.HashedRekordV002 = codes "hashedrekord"
kind_name_of known.DsseV001 = codes "dsse"
kind_name_of known.DsseV002 = codes "dsse"
kind_name_of known.IntotoV002 = codes "intoto"

abbrev pub version_name_of : KindVersion → List ℕ
version_name_of known.HashedRekordV001 = codes "0.0.1"
version_name_of known.HashedRekordV002 = codes "0.0.2"
version_name_of known.DsseV001 = codes "0.0.1"
version_name_of known.DsseV002 = codes "0.0.2"
version_name_of known.IntotoV002 = codes "0.0.2"

-- both names are those of this kind
abbrev pub is_named : List ℕ → List ℕ → KindVersion → Bool
is_named kind version pair = bytes_eq kind (kind_name_of pair) && bytes_eq version (version_name_of pair)

-- the kind and version of these names; any other pair is Kind
abbrev pub kind_named : List ℕ → List ℕ → Result KindVersion TypesError
kind_named kind version =
    if is_named kind version known.HashedRekordV001 then Ok known.HashedRekordV001 else
    if is_named kind version known.HashedRekordV002 then Ok known.HashedRekordV002 else
    if is_named kind version known.DsseV001 then Ok known.DsseV001 else
    if is_named kind version known.DsseV002 then Ok known.DsseV002 else
    if is_named kind version known.IntotoV002 then Ok known.IntotoV002 else
    Err e.Kind

unfoldable pub kind_version_of : Data → Result KindVersion TypesError
kind_version_of d = do
  kind ← required text m.Kind d
  version ← required text m.Version d
  kind_named kind version

-- ---- InclusionProof

-- the empty text or a checkpoint
abbrev pub checkpoint_data_of : List ℕ → Result CheckpointData TypesError
checkpoint_data_of text =
    if length text == 0 then Ok (record { checkpoint = None }) else
    (checkpoint_of text >>= λ checkpoint. Ok (record { checkpoint = Some checkpoint }))

-- the text that was read
abbrev pub text_in : Option Checkpoint → List ℕ
text_in None = []
text_in (Some checkpoint) = checkpoint.text

abbrev pub envelope_text_of : CheckpointData → List ℕ
envelope_text_of held = text_in held.checkpoint

-- Checkpoint
unfoldable pub envelope_of : Data → Result CheckpointData TypesError
envelope_of d = do
  envelope ← required text m.Envelope d
  checkpoint_data_of envelope

-- an absent checkpoint is the empty text
abbrev pub or_no_checkpoint : Option CheckpointData → CheckpointData
or_no_checkpoint None = record { checkpoint = None }
or_no_checkpoint (Some checkpoint) = checkpoint

-- a tree's size is the place of its next entry
unfoldable pub proof_of : Data → Result InclusionProof TypesError
proof_of d = do
  log_index ← place m.LogIndex d
  root_hash ← required sha256 m.RootHash d
  tree_size ← place m.TreeSize d
  hashes ← list sha256 m.Hashes d
  checkpoint ← optional envelope_of m.Checkpoint d
  Ok (record {
    log_index = log_index;
    root_hash = root_hash;
    tree_size = tree_size.value;
    hashes = hashes;
    checkpoint = or_no_checkpoint checkpoint;
  })

-- ---- TransparencyLogEntry

-- where and when an entry was logged
unfoldable pub placed_of : Data → Result Placed TypesError
placed_of d = do
  log_index ← place m.LogIndex d
  log_id ← required log_id_of m.LogId d
  kind_version ← required kind_version_of m.KindVersion d
  time ← optional time_of m.IntegratedTime d
  Ok (record { log_index = log_index; log_id = log_id; kind_version = kind_version; integrated_time = known_time_of time })

-- InclusionPromise
unfoldable pub promise_of : Data → Result InclusionPromise TypesError
promise_of d = do
  timestamp ← required bytes m.SignedEntryTimestamp d
  Ok (record { signed_entry_timestamp = timestamp })

abbrev pub timestamp_of : Option InclusionPromise → Option (List ℕ)
timestamp_of None = None
timestamp_of (Some promise) = Some promise.signed_entry_timestamp

-- other members are passed over
unfoldable pub entry_of : Data → Result TransparencyLogEntry TypesError
entry_of d = do
  placed ← placed_of d
  promise ← optional promise_of m.InclusionPromise d
  proof ← optional proof_of m.InclusionProof d
  body ← required bytes m.CanonicalizedBody d
  Ok (record {
    log_index = placed.log_index;
    log_id = placed.log_id;
    kind_version = placed.kind_version;
    integrated_time = placed.integrated_time;
    inclusion_promise = timestamp_of promise;
    inclusion_proof = proof;
    canonicalized_body = body;
  })

-- the same of a value of which nothing is known: no number in it is a float
unfoldable pub entry_of_value : Data → Result TransparencyLogEntry TypesError
entry_of_value d = if has_float d then Err e.Float else entry_of d
