-- The entries of a bundle under the logs that are trusted (RFC 6962, sections 2.1.1 and 3.2; C2SP tlog-checkpoint), and what they say of
-- the bundle.
use Rattle.std.specs.Prelude.{◌≡◌, ◌≤◌, ℕ, Contains, List, [], ◌∷◌}
use Rattle.std.specs.Prelude.{◌++◌, filter_map, Bool, true, false, if◌then◌else◌, ⊤, IsTrue}
use Rattle.std.specs.Prelude.{Option, Some, None, Result, Ok, Err}
use Rattle.std.specs.List.{cons_option}
use Rattle.foundation.specs.Steps.{◌>>=◌}
use Rattle.jiff_core.specs.declared.timestamp.Timestamp.{Timestamp}
use Rattle.sigstore_types_parts.specs.TimeRange.{contains}
use Rattle.sigstore_types.specs.declared.bundle.Bundle.{Bundle}
use Rattle.sigstore_types.specs.Bundle.{entries_in}
use Rattle.sigstore_keys.specs.declared.distinct.Threshold.{Threshold}
use Rattle.sigstore_keys.specs.Crypto.{Crypto}
use Rattle.sigstore_keys.specs.Distinct.{count_distinct, is_enough}
use Rattle.sigstore_entries.specs.declared.entry.TransparencyLogEntry.{TransparencyLogEntry}
use Rattle.sigstore_log.specs.Entry.{logged_of, log_of}
use Rattle.sigstore_log.specs.Logged.{Logged}
use Rattle.sigstore_log.specs.Promise.{told_time}
use Rattle.sigstore_judgement.specs.declared.error.Error.{Error}
use Rattle.sigstore_judgement.specs.declared.error.Error.TheVariants.{TransparencyLog, TooFewLogs}
use Rattle.sigstore_judgement.specs.declared.error.TransparencyLogError.TheVariants as log
use Rattle.sigstore_binding.specs.declared.error.BindingError.{BindingError}
use Rattle.sigstore_binding.specs.Cause.{BindingCause}
use Rattle.sigstore_binding.specs.Described as binding
use Rattle.sigstore_binding.specs.Rows.{Signed}
use Rattle.sigstore_binding.specs.Verifier.{Readings, Signatory}
use Rattle.sigstore_binding.specs.Described.{describes_of}
use Rattle.sigstore_judgement.specs.Artifact.{Artifact, Digests, digest_of}
use Rattle.sigstore_judgement.specs.Content.{signed_in}
use Rattle.sigstore_judgement.specs.Error.{by_log, by_binding, error_of_binding}
use Rattle.sigstore_judgement.specs.Grounds.{Grounds, readings_in}
use Rattle.sigstore_policy.specs.Policy.{Meaning}
use Rattle.sigstore_judgement.specs.Signer.{Signer, Managed, Certified, validity_of, signatory_of, IsSigner}

-- ---- each is logged

-- whether the signer's certificate was valid at a time
abbrev pub is_valid_at : Signer → Timestamp → Bool
is_valid_at (Managed policy) time = true
is_valid_at (Certified policy info certificate) time = contains (validity_of info) time

-- it was at a time that a log promised: else who found its key later could still sign
abbrev pub is_timely : Signer → Option Timestamp → Bool
is_timely signer None = true
is_timely signer (Some time) = is_valid_at signer time

abbrev pub timely_of : Signer → Option Timestamp → Result (Option Timestamp) Error
timely_of signer time = if is_timely signer time then Ok time else Err (TransparencyLog log.IntegratedTime)

-- an entry is logged, or the first check that fails; it shows the time that its log promised
abbrev pub entry_judged_of : Grounds → Signer → TransparencyLogEntry → Result (Option Timestamp) Error
entry_judged_of grounds signer entry =
    by_log (logged_of grounds.crypto.accepts grounds.material.logs grounds.now entry) >>= timely_of signer

-- the times that logs promised, in the entries' order; each entry is logged (else a good one would cover for one that is made up), and the
-- first that isn't refuses
abbrev pub entries_judged_of : Grounds → Signer → List TransparencyLogEntry → Result (List Timestamp) Error
entries_judged_of grounds signer [] = Ok []
entries_judged_of grounds signer (entry ∷ entries) = do
  time ← entry_judged_of grounds signer entry
  times ← entries_judged_of grounds signer entries
  Ok (cons_option time times)

-- where the policy verifies the log
abbrev pub log_judged_of : Grounds → Signer → Bool → List TransparencyLogEntry → Result (List Timestamp) Error
log_judged_of grounds signer true entries = entries_judged_of grounds signer entries
log_judged_of grounds signer false entries = Ok []

-- ---- in how many logs

-- how many different logs signed the checkpoints of entries, each entry's by the log of the least id
abbrev pub vouching_logs : Grounds → List TransparencyLogEntry → ℕ
vouching_logs grounds entries =
    count_distinct (filter_map (log_of grounds.crypto.accepts grounds.material.logs grounds.now) entries)

-- where the policy verifies the log
abbrev pub log_count_of : Grounds → Bool → List TransparencyLogEntry → ℕ
log_count_of grounds true entries = vouching_logs grounds entries
log_count_of grounds false entries = 0

-- As many as are asked for: else whoever runs fewer could show one tree to the owner of a key and another to everyone else.
abbrev pub logs_judged_of : Bool → Threshold → ℕ → Result ⊤ Error
logs_judged_of true asked found = if is_enough asked found then Ok tt else Err (TooFewLogs asked.value found)
logs_judged_of false asked found = Ok tt

abbrev pub HasLogs : Grounds → Threshold → Bool → List TransparencyLogEntry → Type 0
HasLogs grounds asked true entries = asked.value ≤ vouching_logs grounds entries
HasLogs grounds asked false entries = ⊤

-- ---- at which times

-- the times that entries tell, where the policy verifies the log
abbrev pub told_if : Bool → List TransparencyLogEntry → List Timestamp
told_if true entries = filter_map told_time entries
told_if false entries = []

-- an entry is logged, at a time of the signer's
pub record IsLogged (grounds : Grounds) (signer : Signer) (entry : TransparencyLogEntry) : Type 0 where
  pub logged : Logged grounds.crypto.accepts grounds.material.logs grounds.now entry
  pub timely : IsTrue (is_timely signer (told_time entry))

-- ---- as they are gathered

-- times, and behind them one
abbrev pub with_time : Option Timestamp → List Timestamp → List Timestamp
with_time None times = times
with_time (Some time) times = times ++ time ∷ []

-- times, and behind them those of a judgement
abbrev pub behind : List Timestamp → Result (List Timestamp) Error → Result (List Timestamp) Error
behind before judged = judged >>= λ times. Ok (before ++ times)

-- ---- each is of this bundle

-- Each entry is of who signed, of what they signed and of the signature; the first that isn't refuses.
abbrev pub each_described_of : Readings → Signatory → Signed → List TransparencyLogEntry → Result ⊤ Error
each_described_of readings who signed [] = Ok tt
each_described_of readings who signed (entry ∷ entries) =
    by_binding (describes_of readings who signed entry) >>= λ _. each_described_of readings who signed entries

-- so of this bundle, whatever the policy asks of the log: else an entry of another signature would count as this one's
abbrev pub entries_described_of : Grounds → Signer → Bundle → Digests → List TransparencyLogEntry → Result ⊤ Error
entries_described_of grounds signer bundle digest entries =
    each_described_of (readings_in grounds.crypto) (signatory_of signer) (signed_in bundle.content digest) entries

-- an entry is of this very signature
abbrev pub Describes : Grounds → Signer → Bundle → Artifact → TransparencyLogEntry → Type 0
Describes grounds signer bundle artifact entry =
    binding.Describes (readings_in grounds.crypto) (signatory_of signer) (signed_in bundle.content (digest_of artifact)) entry

-- an entry of the bundle isn't of its signature, and why
pub record HasUndescribed (crypto : Crypto) (policy : Meaning) (bundle : Bundle) (artifact : Artifact) (e : Error) : Type 0 where
  pub signer : Signer
  pub is : IsSigner policy bundle signer
  pub entry : TransparencyLogEntry
  pub among : Contains (entries_in bundle) entry
  pub why : BindingError
  pub named : error_of_binding why ≡ e
  pub cause : BindingCause (readings_in crypto) (signatory_of signer) (signed_in bundle.content (digest_of artifact)) entry why
