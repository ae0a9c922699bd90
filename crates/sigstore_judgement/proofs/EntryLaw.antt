-- Every entry is logged exactly where the judgement of all says so, and the times that are found are those that promises tell.
use Rattle.std.proofs.Common.{◌≡◌, ◌≤◌, List, [], ◌∷◌, Bool, true, false, if◌then◌else◌, Option, Result, Ok, Err, refl, sym, ap, subst, ◌∙◌}
use Rattle.std.specs.Prelude.{⊤, filter_map}
use Rattle.std.proofs.lemmas.Bool.{leb-true, le-leb}
use Rattle.std.specs.List.{AllByRecursion, cons_option}
use Rattle.jiff_core.specs.declared.timestamp.Timestamp.{Timestamp}
use Rattle.foundation.specs.Steps.{◌>>=◌}
use Rattle.foundation.specs.Results.{step_ok, ok_same}
use Rattle.sigstore_types.specs.declared.bundle.Bundle.{Bundle}
use Rattle.sigstore_keys.specs.declared.distinct.Threshold.{Threshold}
use Rattle.sigstore_keys.specs.Distinct.{is_enough}
use Rattle.sigstore_entries.specs.declared.entry.TransparencyLogEntry.{TransparencyLogEntry}
use Rattle.sigstore_log.specs.declared.error.LogError.{LogError}
use Rattle.sigstore_log.specs.Entry.{logged_of}
use Rattle.sigstore_log.specs.Promise.{told_time}
use Rattle.sigstore_log.proofs.LoggedLaw.{logged_exactly}
use Rattle.sigstore_binding.specs.declared.error.BindingError.{BindingError}
use Rattle.sigstore_binding.specs.Described as binding
use Rattle.sigstore_binding.specs.Described.{describes_of}
use Rattle.sigstore_binding.specs.Rows.{Signed}
use Rattle.sigstore_binding.specs.Verifier.{Readings, Signatory}
use Rattle.sigstore_binding.proofs.DescribesLaw.{describes_exactly}
use Rattle.sigstore_judgement.specs.declared.error.Error.{Error}
use Rattle.sigstore_judgement.specs.declared.error.Error.TheVariants.{TransparencyLog, TooFewLogs}
use Rattle.sigstore_judgement.specs.declared.error.TransparencyLogError.TheVariants as log
use Rattle.sigstore_judgement.specs.Accepts.{AreLogged}
use Rattle.sigstore_judgement.specs.Artifact.{Artifact, digest_of}
use Rattle.sigstore_judgement.specs.Content.{signed_in}
use Rattle.sigstore_judgement.specs.Entries.{is_timely, timely_of, entry_judged_of, entries_judged_of, log_judged_of, IsLogged, vouching_logs, log_count_of, logs_judged_of, HasLogs, told_if, each_described_of, entries_described_of, Describes}
use Rattle.sigstore_judgement.specs.Error.{by_log, by_binding}
use Rattle.sigstore_judgement.specs.Grounds.{Grounds, readings_in}
use Rattle.sigstore_judgement.specs.Signer.{Signer, signatory_of}
use Rattle.sigstore_judgement.proofs.EntryCauses.{passed_log}

ok_binding : (r : Result ⊤ BindingError) (x : ⊤) → by_binding r ≡ Ok x → r ≡ Ok x
ok_binding (Ok y) x h = refl
ok_binding (Err e) x h = cc

-- a time that is let pass is timely
timely_by : (b : Bool) (time x : Option Timestamp) → ◌≡◌ {A = Result (Option Timestamp) Error} (if b then Ok time else Err (TransparencyLog log.IntegratedTime)) (Ok x) → (b ≡ true) × (time ≡ x)
timely_by true time x h = (refl, ok_same time x h)
timely_by false time x h = cc

module _ (grounds : Grounds) (signer : Signer) where
  abbrev judged : TransparencyLogEntry → Result (Option Timestamp) LogError
  judged entry = logged_of grounds.crypto.accepts grounds.material.logs grounds.now entry

  each_logged : (entries : List TransparencyLogEntry) (times : List Timestamp) → entries_judged_of grounds signer entries ≡ Ok times
      → AllByRecursion (IsLogged grounds signer) entries × (times ≡ filter_map told_time entries)
  each_logged [] times h = (tt, sym (ok_same [] times h))
  each_logged (entry ∷ entries) times h =
      let s = step_ok (entry_judged_of grounds signer entry) (λ time. entries_judged_of grounds signer entries >>= λ rest. Ok (cons_option time rest)) times h in
      let r = step_ok (entries_judged_of grounds signer entries) (λ rest. Ok (cons_option s.0 rest)) times s.2 in
      let t = step_ok (by_log (judged entry)) (timely_of signer) s.0 s.1 in
      let q = timely_by (is_timely signer t.0) t.0 s.0 t.2 in
      let one = (logged_exactly grounds.crypto.accepts grounds.material.logs grounds.now entry t.0).0 (passed_log (judged entry) t.0 t.1) in
      let rest = each_logged entries r.0 r.1 in (
        (record { logged = one.0; timely = subst (λ time. is_timely signer time ≡ true) one.1 q.0 }, rest.0),
        sym (ok_same (cons_option s.0 r.0) times r.2) ∙ ap (λ time. cons_option time r.0) (sym q.1 ∙ one.1) ∙ ap (cons_option (told_time entry)) rest.1,
      )

  all_judged : (entries : List TransparencyLogEntry) → AllByRecursion (IsLogged grounds signer) entries → entries_judged_of grounds signer entries ≡ Ok (filter_map told_time entries)
  all_judged [] a = refl
  all_judged (entry ∷ entries) a =
      ap (λ r. (by_log r >>= timely_of signer) >>= λ time. entries_judged_of grounds signer entries >>= λ rest. Ok (cons_option time rest))
      ((logged_exactly grounds.crypto.accepts grounds.material.logs grounds.now entry (told_time entry)).1 (a.0.logged, refl))
      ∙ ap (λ (b : Bool). (if b then Ok (told_time entry) else Err (TransparencyLog log.IntegratedTime)) >>= λ time. entries_judged_of grounds signer entries >>= λ rest. Ok (cons_option time rest)) a.0.timely
      ∙ ap (λ r. r >>= λ rest. Ok (cons_option (told_time entry) rest)) (all_judged entries a.1)

  pub are_logged : (asked : Bool) (entries : List TransparencyLogEntry) (times : List Timestamp) → log_judged_of grounds signer asked entries ≡ Ok times
      → AreLogged grounds signer asked entries × (times ≡ told_if asked entries)
  are_logged true entries times h = each_logged entries times h
  are_logged false entries times h = (tt, sym (ok_same [] times h))

  pub log_accepted : (asked : Bool) (entries : List TransparencyLogEntry) → AreLogged grounds signer asked entries
      → log_judged_of grounds signer asked entries ≡ Ok (told_if asked entries)
  log_accepted true entries a = all_judged entries a
  log_accepted false entries a = refl

-- ---- in how many logs

module _ (grounds : Grounds) where
  pub enough_means : (asked : Threshold) (verify : Bool) (entries : List TransparencyLogEntry) (x : ⊤)
      → logs_judged_of verify asked (log_count_of grounds verify entries) ≡ Ok x → HasLogs grounds asked verify entries
  enough_means asked true entries x h = by (is_enough asked (vouching_logs grounds entries)) (leb-true asked.value (vouching_logs grounds entries)) h
    where
      by : (b : Bool) → (b ≡ true → asked.value ≤ vouching_logs grounds entries)
          → ◌≡◌ {A = Result ⊤ Error} (if b then Ok tt else Err (TooFewLogs asked.value (vouching_logs grounds entries))) (Ok x)
          → asked.value ≤ vouching_logs grounds entries
      by true less k = less refl
      by false less k = cc
  enough_means asked false entries x h = tt

  pub enough_passes : (asked : Threshold) (verify : Bool) (entries : List TransparencyLogEntry) → HasLogs grounds asked verify entries
      → logs_judged_of verify asked (log_count_of grounds verify entries) ≡ Ok tt
  enough_passes asked true entries has =
      ap (λ (b : Bool). if b then Ok tt else Err (TooFewLogs asked.value (vouching_logs grounds entries)))
      (le-leb asked.value (vouching_logs grounds entries) has)
  enough_passes asked false entries has = refl

-- ---- what entries say

module _ (readings : Readings) (who : Signatory) (signed : Signed) where
  each_is : (entries : List TransparencyLogEntry) (x : ⊤) → each_described_of readings who signed entries ≡ Ok x → AllByRecursion (binding.Describes readings who signed) entries
  each_is [] x h = tt
  each_is (entry ∷ entries) x h =
      let s = step_ok (by_binding (describes_of readings who signed entry)) (λ _. each_described_of readings who signed entries) x h in
      ((describes_exactly readings who signed entry).0 (ok_binding (describes_of readings who signed entry) s.0 s.1), each_is entries x s.2)

  is_each : (entries : List TransparencyLogEntry) → AllByRecursion (binding.Describes readings who signed) entries → each_described_of readings who signed entries ≡ Ok tt
  is_each [] a = refl
  is_each (entry ∷ entries) a =
      ap (λ r. by_binding r >>= λ _. each_described_of readings who signed entries) ((describes_exactly readings who signed entry).1 a.0) ∙ is_each entries a.1

module _ (grounds : Grounds) (signer : Signer) (bundle : Bundle) (artifact : Artifact) where
  pub are_described : (entries : List TransparencyLogEntry) (x : ⊤) → entries_described_of grounds signer bundle (digest_of artifact) entries ≡ Ok x
      → AllByRecursion (Describes grounds signer bundle artifact) entries
  are_described entries x h = each_is (readings_in grounds.crypto) (signatory_of signer) (signed_in bundle.content (digest_of artifact)) entries x h

  pub described_pass : (entries : List TransparencyLogEntry) → AllByRecursion (Describes grounds signer bundle artifact) entries
      → entries_described_of grounds signer bundle (digest_of artifact) entries ≡ Ok tt
  described_pass entries a = is_each (readings_in grounds.crypto) (signatory_of signer) (signed_in bundle.content (digest_of artifact)) entries a
