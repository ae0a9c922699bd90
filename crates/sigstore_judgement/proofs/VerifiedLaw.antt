-- The verified times are exactly those that tokens and promises tell.
use Rattle.std.proofs.Common.{◌≡◌, ◌≢◌, ℕ, ℤ, List, [], ◌∷◌, ◌++◌, length, nat_eq, Bool, true, false, ◌&&◌, not, if◌then◌else◌, Option, Some, None, Result, Ok, Err, ok_or, refl, sym, ap, subst, ◌∙◌}
use Rattle.std.specs.Prelude.{⊤, filter_map, Contains}
use Rattle.std.specs.List.{cons_option}
use Rattle.jiff_core.specs.declared.timestamp.Timestamp.{Timestamp}
use Rattle.foundation.specs.Steps.{◌>>=◌}
use Rattle.foundation.specs.Results.{step_ok, ok_same, err_same, refused_at}
use Rattle.sigstore_types_parts.specs.Instant.{at_second}
use Rattle.sigstore_keys.specs.declared.key.VerificationKey.{VerificationKey}
use Rattle.sigstore_keys.specs.Good.{Judge}
use Rattle.sigstore_keys.specs.Keyring.{Ring, key_at, key_by}
use Rattle.sigstore_types.specs.declared.bundle.Bundle.{Bundle}
use Rattle.sigstore_types.specs.Bundle.{entries_in, tokens_in}
use Rattle.sigstore_entries.specs.declared.entry.TransparencyLogEntry.{TransparencyLogEntry}
use Rattle.sigstore_entries.specs.Promise.{payload_of}
use Rattle.sigstore_log.specs.declared.error.LogError.{LogError}
use Rattle.sigstore_log.specs.declared.error.LogError.TheVariants as refusal
use Rattle.sigstore_log.specs.Cause.{LogCause}
use Rattle.sigstore_log.specs.Promise.{id_of, key_of, is_promised, promise_of, tells_time, is_past_or_now, time_judged, told_time, promise_judged}
use Rattle.sigstore_log.proofs.CauseLaw.{unpromised}
use Rattle.sigstore_log.proofs.Promising.{promise_means, promise_passes}
use Rattle.sigstore_judgement.specs.declared.error.Error.{Error}
use Rattle.sigstore_judgement.specs.declared.error.Error.TheVariants as verify
use Rattle.sigstore_judgement.specs.declared.error.TimestampError.TheVariants.{NoVerifiedTimestamp}
use Rattle.sigstore_judgement.specs.Cause.{IsOfPromise}
use Rattle.sigstore_judgement.specs.Content.{signature_in}
use Rattle.sigstore_judgement.specs.Error.{by_log, error_of_log}
use Rattle.sigstore_judgement.specs.Grounds.{Grounds}
use Rattle.sigstore_judgement.specs.Tokens.{tokens_judged_of, AreStamped}
use Rattle.sigstore_judgement.specs.Verified.{promised_if, promised_of, promises_judged_of, some_time, verified_of, IsTold, AreTold, AreVerified}
use Rattle.sigstore_judgement.proofs.EntryCauses.{among_first, among_later, passed_log, through_log}
use Rattle.sigstore_judgement.proofs.TokenLaw.{are_stamped, stamped_pass}

-- ---- what a promise is refused for

unless : {A : Type 0} (b : Bool) (x : A) (d e : LogError) → IsOfPromise d → ◌≡◌ {A = Result A LogError} (if b then Ok x else Err d) (Err e) → IsOfPromise e
unless true x d e may h = cc
unless false x d e may h = subst IsOfPromise (err_same d e h) may

where_ahead : (b : Bool) (d e : LogError) → IsOfPromise d → ◌≡◌ {A = Result ⊤ LogError} (if b then Err d else Ok tt) (Err e) → IsOfPromise e
where_ahead true d e may h = subst IsOfPromise (err_same d e h) may
where_ahead false d e may h = cc

without : (o : Option VerificationKey) (d e : LogError) → IsOfPromise d → ok_or o d ≡ Err e → IsOfPromise e
without None d e may h = subst IsOfPromise (err_same d e h) may
without (Some key) d e may h = cc

module _ (accepts : Judge) (logs : Ring) (now : Timestamp) (entry : TransparencyLogEntry) (e : LogError) where
  keyless : (id : List ℕ) (time : Option ℤ) → key_of logs now id time ≡ Err e → IsOfPromise e
  keyless id (Some time) h = without (key_at id (at_second time) logs) refusal.InclusionPromise e tt h
  keyless id None h = without (key_by id now logs) (refusal.UnknownLog id) e tt h

  of_no_log : (promise : List ℕ) → promise_of accepts logs now entry promise ≡ Err e → IsOfPromise e
  unfolding promise_of
  of_no_log promise h =
      refused_at (id_of entry.log_id.key_id) _ e h (unless (nat_eq (length entry.log_id.key_id) 32) entry.log_id.key_id refusal.MalformedEntry e tt) (λ (id : List ℕ) p k.
      refused_at (key_of logs now id entry.integrated_time) _ e k (keyless id entry.integrated_time)
      (λ (key : VerificationKey) q l. unless (is_promised accepts key (payload_of entry) promise) tt refusal.InclusionPromise e tt l))

  -- a promise's judgement answers nothing of a proof or a checkpoint
  of_promise : (o : Option (List ℕ)) → promise_judged accepts logs now entry o ≡ Err e → IsOfPromise e
  of_promise None h = cc
  of_promise (Some promise) h =
      refused_at (promise_of accepts logs now entry promise) _ e h (of_no_log promise) (λ u p k.
      refused_at (time_judged now entry) _ e k (where_ahead (tells_time entry.kind_version && not (is_past_or_now now entry.integrated_time)) refusal.IntegratedTime e tt)
      (λ v q l. cc))

-- ---- promises

module _ (grounds : Grounds) where
  abbrev judged : TransparencyLogEntry → Result (Option Timestamp) LogError
  judged entry = promise_judged grounds.crypto.accepts grounds.material.logs grounds.now entry entry.inclusion_promise

  told_means : (entry : TransparencyLogEntry) (o x : Option Timestamp) → told_time entry ≡ o → promised_if grounds entry o ≡ Ok x → IsTold grounds entry o × (x ≡ o)
  told_means entry None x is h = (tt, sym (ok_same None x h))
  told_means entry (Some time) x is h =
      let p = promise_means grounds.crypto.accepts grounds.material.logs grounds.now entry entry.inclusion_promise x (passed_log (judged entry) x h) in
      (p.0, p.1 ∙ is)

  told_passes : (entry : TransparencyLogEntry) (o : Option Timestamp) → told_time entry ≡ o → IsTold grounds entry o → promised_if grounds entry o ≡ Ok o
  told_passes entry None is t = refl
  told_passes entry (Some time) is t =
      ap by_log (promise_passes grounds.crypto.accepts grounds.material.logs grounds.now entry entry.inclusion_promise t) ∙ ap Ok is

  pub each_told : (entries : List TransparencyLogEntry) (times : List Timestamp) → promises_judged_of grounds entries ≡ Ok times
      → AreTold grounds entries × (times ≡ filter_map told_time entries)
  each_told [] times h = (tt, sym (ok_same [] times h))
  each_told (entry ∷ entries) times h =
      let s = step_ok (promised_of grounds entry) (λ time. promises_judged_of grounds entries >>= λ rest. Ok (cons_option time rest)) times h in
      let r = step_ok (promises_judged_of grounds entries) (λ rest. Ok (cons_option s.0 rest)) times s.2 in
      let one = told_means entry (told_time entry) s.0 refl s.1 in
      let rest = each_told entries r.0 r.1 in
      ((one.0, rest.0), sym (ok_same (cons_option s.0 r.0) times r.2) ∙ ap (λ time. cons_option time r.0) one.1 ∙ ap (cons_option (told_time entry)) rest.1)

  all_told : (entries : List TransparencyLogEntry) → AreTold grounds entries → promises_judged_of grounds entries ≡ Ok (filter_map told_time entries)
  all_told [] a = refl
  all_told (entry ∷ entries) a =
      ap (λ r. r >>= λ time. promises_judged_of grounds entries >>= λ rest. Ok (cons_option time rest)) (told_passes entry (told_time entry) refl a.0)
      ∙ ap (λ r. r >>= λ rest. Ok (cons_option (told_time entry) rest)) (all_told entries a.1)

  -- one of them isn't its log's, and this is why
  pub record Unpromised (entries : List TransparencyLogEntry) (e : Error) : Type 0 where
    pub entry : TransparencyLogEntry
    pub among : Contains entries entry
    pub time : Timestamp
    pub tells : told_time entry ≡ Some time
    pub why : LogError
    pub of_promise : IsOfPromise why
    pub named : error_of_log why ≡ e
    pub cause : LogCause grounds.crypto.accepts grounds.material.logs grounds.now entry why

  pub promises_refused : (entries : List TransparencyLogEntry) (e : Error) → promises_judged_of grounds entries ≡ Err e → Unpromised entries e
  promises_refused [] e h = cc
  promises_refused (x ∷ xs) e h =
      refused_at (promised_of grounds x) (λ time. promises_judged_of grounds xs >>= λ times. Ok (cons_option time times)) e h (here (told_time x) refl)
      (λ time p k. refused_at (promises_judged_of grounds xs) (λ times. Ok (cons_option time times)) e k
      (λ r. later (promises_refused xs e r)) (λ times q j. cc))
    where
      here : (o : Option Timestamp) → told_time x ≡ o → promised_if grounds x o ≡ Err e → Unpromised (x ∷ xs) e
      here None is r = cc
      here (Some time) is r =
          let d = through_log (judged x) e r in
          record {
            entry = x;
            among = among_first x xs;
            time = time;
            tells = is;
            why = d.0;
            of_promise = of_promise grounds.crypto.accepts grounds.material.logs grounds.now x d.0 x.inclusion_promise d.1;
            named = d.2;
            cause = unpromised grounds.crypto.accepts grounds.material.logs grounds.now x d.0 x.inclusion_promise refl d.1;
          }

      later : Unpromised xs e → Unpromised (x ∷ xs) e
      later u = record {
        entry = u.entry;
        among = among_later x xs u.entry u.among;
        time = u.time;
        tells = u.tells;
        why = u.why;
        of_promise = u.of_promise;
        named = u.named;
        cause = u.cause;
      }

-- ---- both

some_means : (xs times : List Timestamp) → some_time xs ≡ Ok times → (times ≡ xs) × (times ≢ [])
some_means [] times h = cc
some_means (x ∷ xs) times h = (sym (ok_same (x ∷ xs) times h), λ e. let k : x ∷ xs ≡ [] = ok_same (x ∷ xs) times h ∙ e in cc)

some_passes : (xs times : List Timestamp) → times ≡ xs → times ≢ [] → some_time xs ≡ Ok times
some_passes [] times is n = absurd (n is)
some_passes (x ∷ xs) times is n = ap Ok (sym is)

-- none is a refusal for want of a time, and there is none at all
pub none_there : (xs : List Timestamp) (e : Error) → some_time xs ≡ Err e → (xs ≡ []) × (verify.Timestamp NoVerifiedTimestamp ≡ e)
none_there [] e h = (refl, err_same (verify.Timestamp NoVerifiedTimestamp) e h)
none_there (x ∷ xs) e h = cc

pub none_joined : (xs ys : List Timestamp) → xs ++ ys ≡ [] → (xs ≡ []) × (ys ≡ [])
none_joined [] ys h = (refl, h)
none_joined (x ∷ xs) ys h = cc

module _ (grounds : Grounds) (bundle : Bundle) where
  abbrev pub after_promised : List Timestamp → List Timestamp → Result (List Timestamp) Error
  after_promised stamped promised = some_time (stamped ++ promised)

  abbrev pub after_stamped : List Timestamp → Result (List Timestamp) Error
  after_stamped stamped = promises_judged_of grounds (entries_in bundle) >>= after_promised stamped

  pub verified_means : (times : List Timestamp) → verified_of grounds bundle ≡ Ok times → AreVerified grounds bundle times
  unfolding verified_of
  verified_means times h =
      let a = step_ok (tokens_judged_of grounds (signature_in bundle.content) (tokens_in bundle)) after_stamped times h in
      let b = step_ok (promises_judged_of grounds (entries_in bundle)) (after_promised a.0) times a.2 in
      let told = each_told grounds (entries_in bundle) b.0 b.1 in
      let some = some_means (a.0 ++ b.0) times b.2 in
      record {
        stamped = a.0;
        tokens = are_stamped grounds (signature_in bundle.content) (tokens_in bundle) a.0 a.1;
        told = told.0;
        are = some.0 ∙ ap (λ promised. a.0 ++ promised) told.1;
        some = some.1;
      }

  pub verified_passes : (times : List Timestamp) → AreVerified grounds bundle times → verified_of grounds bundle ≡ Ok times
  unfolding verified_of
  verified_passes times v =
      ap (λ r. r >>= after_stamped) (stamped_pass grounds (signature_in bundle.content) (tokens_in bundle) v.stamped v.tokens)
      ∙ ap (λ r. r >>= after_promised v.stamped) (all_told grounds (entries_in bundle) v.told)
      ∙ some_passes (v.stamped ++ filter_map told_time (entries_in bundle)) times v.are v.some

-- where no token was stamped, there is none
pub no_tokens : (tokens : List (List ℕ)) (grounds : Grounds) (signature : List ℕ) (stamped : List Timestamp) → AreStamped grounds signature tokens stamped → stamped ≡ [] → tokens ≡ []
no_tokens [] grounds signature stamped a none = refl
no_tokens (token ∷ tokens) grounds signature [] a none = absurd a
no_tokens (token ∷ tokens) grounds signature (time ∷ times) a none = cc
