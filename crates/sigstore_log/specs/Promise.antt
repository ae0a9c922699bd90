-- What a log promised of an entry: the signed entry timestamp (Sigstore protobuf specs, sigstore_rekor.proto, InclusionPromise), which is
-- to a log of signatures what a signed certificate timestamp is to one of certificates (RFC 6962, section 3.2).
use Rattle.std.specs.Prelude.{ℕ, ℤ, List, length, nat_eq, Bool, true, false, ◌&&◌, not, if◌then◌else◌, int_lt}
use Rattle.std.specs.Prelude.{Option, Some, None, Result, Ok, Err, ok_or, ⊤}
use Rattle.std.specs.Option.{option_map}
use Rattle.foundation.specs.Steps.{◌>>=◌}
use Rattle.jiff_core.specs.declared.timestamp.Timestamp.{Timestamp}
use Rattle.sigstore_types_parts.specs.Instant.{at_second}
use Rattle.sigstore_keys.specs.declared.key.VerificationKey.{VerificationKey}
use Rattle.sigstore_keys.specs.Good.{Judge, is_good}
use Rattle.sigstore_keys.specs.Keyring.{Ring, key_at, key_by}
use Rattle.sigstore_entries.specs.declared.kind_version.KindVersion.{KindVersion}
use Rattle.sigstore_entries.specs.declared.kind_version.KindVersion.TheVariants.{HashedRekordV001, HashedRekordV002}
use Rattle.sigstore_entries.specs.declared.kind_version.KindVersion.TheVariants.{DsseV001, DsseV002, IntotoV002}
use Rattle.sigstore_entries.specs.declared.entry.TransparencyLogEntry.{TransparencyLogEntry}
use Rattle.sigstore_entries.specs.Promise.{payload_of}
use Rattle.sigstore_log.specs.declared.error.LogError.{LogError}
use Rattle.sigstore_log.specs.declared.error.LogError.TheVariants as refusal

-- the id of a log is a SHA-256 value (RFC 6962, section 3.2)
abbrev pub id_of : List ℕ → Result (List ℕ) LogError
id_of id = if nat_eq (length id) 32 then Ok id else Err refusal.MalformedEntry

-- The key of the log that promised: where the promise tells its time, the one that is used at that time (else a key that is no longer
-- trusted could still promise); where it tells none, the one whose window has started by now. A window that has ended still counts then:
-- nothing tells when the promise was made, and one that was made while the key was used stays the log's.
abbrev pub key_of : Ring → Timestamp → List ℕ → Option ℤ → Result VerificationKey LogError
key_of logs now id (Some time) = ok_or (key_at id (at_second time) logs) refusal.InclusionPromise
key_of logs now id None = ok_or (key_by id now logs) (refusal.UnknownLog id)

-- the signature is good over the entry's payload; one that can't be written is nobody's
abbrev pub is_promised : Judge → VerificationKey → Option (List ℕ) → List ℕ → Bool
is_promised accepts key None promise = false
is_promised accepts key (Some payload) promise = is_good accepts key payload promise

-- a promise of the log, the entry's own
unfoldable pub promise_of : Judge → Ring → Timestamp → TransparencyLogEntry → List ℕ → Result ⊤ LogError
promise_of accepts logs now entry promise = do
  id ← id_of entry.log_id.key_id
  key ← key_of logs now id entry.integrated_time
  if is_promised accepts key (payload_of entry) promise then Ok tt else Err refusal.InclusionPromise

-- The kinds whose promise tells when the entry was logged. Logs of hashedrekord and dsse 0.0.2 answer with a proof of inclusion in place
-- of a promise, and leave the time to timestamp authorities (RFC 3161): a time that such an entry brings is none that its log tells.
abbrev pub tells_time : KindVersion → Bool
tells_time HashedRekordV001 = true
tells_time HashedRekordV002 = false
tells_time DsseV001 = true
tells_time DsseV002 = false
tells_time IntotoV002 = true

-- a promised time isn't after now: a log that dates ahead would make an expired key look used in its time
abbrev pub is_past_or_now : Timestamp → Option ℤ → Bool
is_past_or_now now None = true
is_past_or_now now (Some time) = not (int_lt now.nanosecond (at_second time).nanosecond)

abbrev pub time_judged : Timestamp → TransparencyLogEntry → Result ⊤ LogError
time_judged now entry =
    if tells_time entry.kind_version && not (is_past_or_now now entry.integrated_time) then Err refusal.IntegratedTime else Ok tt

-- ---- what a promise shows

-- the time that a promise of the entry tells, where its kind's promises tell one
abbrev pub told_by : TransparencyLogEntry → Option (List ℕ) → Option Timestamp
told_by entry None = None
told_by entry (Some promise) = if tells_time entry.kind_version then option_map at_second entry.integrated_time else None

-- the time that the entry's own promise tells
abbrev pub told_time : TransparencyLogEntry → Option Timestamp
told_time entry = told_by entry entry.inclusion_promise

-- the promise is the log's, and its time isn't after now; it shows the time that it tells, and an entry without a promise none
abbrev pub promise_judged : Judge → Ring → Timestamp → TransparencyLogEntry → Option (List ℕ) → Result (Option Timestamp) LogError
promise_judged accepts logs now entry None = Ok None
promise_judged accepts logs now entry (Some promise) = do
  _ ← promise_of accepts logs now entry promise
  _ ← time_judged now entry
  Ok (told_by entry (Some promise))
