-- The times at which a signature is verified to have been there: those of its time-stamp tokens (RFC 3161), and those that logs promised of
-- its entries. They say when the signing certificate was used.
use Rattle.std.specs.Prelude.{◌≡◌, ◌≢◌, List, [], ◌∷◌, ◌++◌, filter_map, Option, Some, None, Result, Ok, Err, ⊤}
use Rattle.std.specs.List.{AllByRecursion, cons_option}
use Rattle.foundation.specs.Steps.{◌>>=◌}
use Rattle.jiff_core.specs.declared.timestamp.Timestamp as jiff
use Rattle.sigstore_types.specs.declared.bundle.Bundle.{Bundle}
use Rattle.sigstore_types.specs.Bundle.{entries_in, tokens_in}
use Rattle.sigstore_entries.specs.declared.entry.TransparencyLogEntry.{TransparencyLogEntry}
use Rattle.sigstore_log.specs.Logged.{IsPromised}
use Rattle.sigstore_log.specs.Promise.{told_time, promise_judged}
use Rattle.sigstore_judgement.specs.declared.error.Error.{Error}
use Rattle.sigstore_judgement.specs.declared.error.Error.TheVariants.{Timestamp}
use Rattle.sigstore_judgement.specs.declared.error.TimestampError.TheVariants.{NoVerifiedTimestamp}
use Rattle.sigstore_judgement.specs.Content.{signature_in}
use Rattle.sigstore_judgement.specs.Error.{by_log}
use Rattle.sigstore_judgement.specs.Grounds.{Grounds}
use Rattle.sigstore_judgement.specs.Tokens.{tokens_judged_of, AreStamped}

-- ---- promises

-- Where an entry's promise tells a time, the promise is the log's, and its time isn't after now: else whoever wrote the bundle chose when
-- it was signed. An entry without such a time says nothing here.
abbrev pub promised_if : Grounds → TransparencyLogEntry → Option jiff.Timestamp → Result (Option jiff.Timestamp) Error
promised_if grounds entry None = Ok None
promised_if grounds entry (Some time) =
    by_log (promise_judged grounds.crypto.accepts grounds.material.logs grounds.now entry entry.inclusion_promise)

abbrev pub promised_of : Grounds → TransparencyLogEntry → Result (Option jiff.Timestamp) Error
promised_of grounds entry = promised_if grounds entry (told_time entry)

-- the times that promises tell, in the entries' order; the first promise that isn't its log's refuses
abbrev pub promises_judged_of : Grounds → List TransparencyLogEntry → Result (List jiff.Timestamp) Error
promises_judged_of grounds [] = Ok []
promises_judged_of grounds (entry ∷ entries) = do
  time ← promised_of grounds entry
  times ← promises_judged_of grounds entries
  Ok (cons_option time times)

-- ---- both

-- without a verified time nothing says that the certificate was valid when it signed
abbrev pub some_time : List jiff.Timestamp → Result (List jiff.Timestamp) Error
some_time [] = Err (Timestamp NoVerifiedTimestamp)
some_time (time ∷ times) = Ok (time ∷ times)

-- those of the tokens, and behind them those of the promises, whether or not the policy verifies the log
unfoldable pub verified_of : Grounds → Bundle → Result (List jiff.Timestamp) Error
verified_of grounds bundle = do
  stamped ← tokens_judged_of grounds (signature_in bundle.content) (tokens_in bundle)
  promised ← promises_judged_of grounds (entries_in bundle)
  some_time (stamped ++ promised)

-- ---- told without any order

abbrev pub IsTold : Grounds → TransparencyLogEntry → Option jiff.Timestamp → Type 0
IsTold grounds entry None = ⊤
IsTold grounds entry (Some time) =
    IsPromised grounds.crypto.accepts grounds.material.logs grounds.now entry entry.inclusion_promise

-- each promise that tells a time is its log's, and its time isn't after now
abbrev pub AreTold : Grounds → List TransparencyLogEntry → Type 0
AreTold grounds entries = AllByRecursion (λ entry. IsTold grounds entry (told_time entry)) entries

-- these are the verified times, and there is one
pub record AreVerified (grounds : Grounds) (bundle : Bundle) (times : List jiff.Timestamp) : Type 0 where
  pub stamped : List jiff.Timestamp
  pub tokens : AreStamped grounds (signature_in bundle.content) (tokens_in bundle) stamped
  pub told : AreTold grounds (entries_in bundle)
  pub are : times ≡ stamped ++ filter_map told_time (entries_in bundle)
  pub some : times ≢ []
