-- A refusal of the log is of an entry that isn't logged.
use Rattle.std.proofs.Common.{◌≡◌, ◌⊎◌, inl, inr, suc, List, [], ◌∷◌, Bool, true, false, if◌then◌else◌, Option, Result, Ok, Err, refl, subst, arith}
use Rattle.std.specs.Prelude.{Contains}
use Rattle.std.specs.List.{cons_option}
use Rattle.jiff_core.specs.declared.timestamp.Timestamp.{Timestamp}
use Rattle.foundation.specs.Steps.{◌>>=◌}
use Rattle.foundation.specs.Results.{refused_at, err_same}
use Rattle.sigstore_entries.specs.declared.entry.TransparencyLogEntry.{TransparencyLogEntry}
use Rattle.sigstore_log.specs.declared.error.LogError.{LogError}
use Rattle.sigstore_log.specs.Cause.{LogCause}
use Rattle.sigstore_log.specs.Entry.{logged_of}
use Rattle.sigstore_log.specs.Promise.{told_time}
use Rattle.sigstore_log.proofs.CauseLaw.{refusals_have_causes}
use Rattle.sigstore_log.proofs.LoggedLaw.{logged_exactly}
use Rattle.sigstore_judgement.specs.declared.error.Error.{Error}
use Rattle.sigstore_judgement.specs.declared.error.Error.TheVariants.{TransparencyLog}
use Rattle.sigstore_judgement.specs.declared.error.TransparencyLogError.TheVariants as log
use Rattle.sigstore_judgement.specs.Entries.{is_timely, timely_of, entry_judged_of, entries_judged_of}
use Rattle.sigstore_judgement.specs.Error.{by_log, error_of_log}
use Rattle.sigstore_judgement.specs.Grounds.{Grounds}
use Rattle.sigstore_judgement.specs.Signer.{Signer}

pub among_first : {A : Type 0} (x : A) (xs : List A) → Contains (x ∷ xs) x
among_first x xs = (0, omega arith, refl)

pub among_later : {A : Type 0} (x : A) (xs : List A) (y : A) → Contains xs y → Contains (x ∷ xs) y
among_later x xs y c = (suc c.0, omega (arith, c.1), c.2)

pub through_log : {A : Type 0} (r : Result A LogError) (e : Error) → by_log r ≡ Err e → (why : LogError) × (r ≡ Err why) × (error_of_log why ≡ e)
through_log (Ok x) e h = cc
through_log (Err why) e h = (why, refl, err_same (error_of_log why) e h)

pub passed_log : (r : Result (Option Timestamp) LogError) (x : Option Timestamp) → by_log r ≡ Ok x → r ≡ Ok x
passed_log (Ok y) x h = cc
passed_log (Err e) x h = cc

-- one of the entries isn't logged
pub record Unlogged (grounds : Grounds) (entries : List TransparencyLogEntry) (e : Error) : Type 0 where
  pub entry : TransparencyLogEntry
  pub among : Contains entries entry
  pub why : LogError
  pub named : error_of_log why ≡ e
  pub cause : LogCause grounds.crypto.accepts grounds.material.logs grounds.now entry why

-- one of them is logged at a time that isn't the signer's
pub record Untimely (signer : Signer) (entries : List TransparencyLogEntry) (e : Error) : Type 0 where
  pub entry : TransparencyLogEntry
  pub among : Contains entries entry
  pub untimely : is_timely signer (told_time entry) ≡ false
  pub named : TransparencyLog log.IntegratedTime ≡ e

untimely_by : (b : Bool) (time : Option Timestamp) (e : Error) → ◌≡◌ {A = Result (Option Timestamp) Error} (if b then Ok time else Err (TransparencyLog log.IntegratedTime)) (Err e)
    → (b ≡ false) × (TransparencyLog log.IntegratedTime ≡ e)
untimely_by true time e h = cc
untimely_by false time e h = (refl, err_same (TransparencyLog log.IntegratedTime) e h)

abbrev judged_in : Grounds → TransparencyLogEntry → Result (Option Timestamp) LogError
judged_in grounds entry = logged_of grounds.crypto.accepts grounds.material.logs grounds.now entry

pub entries_unlogged : (grounds : Grounds) (signer : Signer) (entries : List TransparencyLogEntry) (e : Error) → entries_judged_of grounds signer entries ≡ Err e
    → Unlogged grounds entries e ⊎ Untimely signer entries e
entries_unlogged grounds signer [] e h = cc
entries_unlogged grounds signer (x ∷ xs) e h =
    refused_at (entry_judged_of grounds signer x) (λ time. entries_judged_of grounds signer xs >>= λ times. Ok (cons_option time times)) e h here
    (λ time p k. refused_at (entries_judged_of grounds signer xs) (λ times. Ok (cons_option time times)) e k
    (λ r. later (entries_unlogged grounds signer xs e r)) (λ times q j. cc))
  where
    unlogged : by_log (judged_in grounds x) ≡ Err e → Unlogged grounds (x ∷ xs) e
    unlogged r =
        let d = through_log (judged_in grounds x) e r in
        record {
          entry = x;
          among = among_first x xs;
          why = d.0;
          named = d.2;
          cause = refusals_have_causes grounds.crypto.accepts grounds.material.logs grounds.now x d.0 d.1;
        }

    untimely : (time : Option Timestamp) → by_log (judged_in grounds x) ≡ Ok time → timely_of signer time ≡ Err e → Untimely signer (x ∷ xs) e
    untimely time p k =
        let told = ((logged_exactly grounds.crypto.accepts grounds.material.logs grounds.now x time).0 (passed_log (judged_in grounds x) time p)).1 in
        let d = untimely_by (is_timely signer time) time e k in
        record { entry = x; among = among_first x xs; untimely = subst (λ time. is_timely signer time ≡ false) told d.0; named = d.1 }

    here : entry_judged_of grounds signer x ≡ Err e → Unlogged grounds (x ∷ xs) e ⊎ Untimely signer (x ∷ xs) e
    here r = refused_at (by_log (judged_in grounds x)) (timely_of signer) e r (λ q. inl (unlogged q)) (λ time p k. inr (untimely time p k))

    later : Unlogged grounds xs e ⊎ Untimely signer xs e → Unlogged grounds (x ∷ xs) e ⊎ Untimely signer (x ∷ xs) e
    later (inl u) = inl (record { entry = u.entry; among = among_later x xs u.entry u.among; why = u.why; named = u.named; cause = u.cause })
    later (inr u) = inr (record { entry = u.entry; among = among_later x xs u.entry u.among; untimely = u.untimely; named = u.named })
