-- A promise is judged to be good exactly where it is the log's.
use Rattle.std.proofs.Common.{◌≡◌, ℕ, List, length, Bool, true, false, ◌&&◌, not, if◌then◌else◌, Option, Some, None, Result, Ok, Err, refl, sym, ap, ◌∙◌, subst}
use Rattle.std.specs.Prelude.{⊤, nat_eq}
use Rattle.std.proofs.lemmas.Bool.{eqb-true, eq-eqb}
use Rattle.foundation.specs.Steps.{◌>>=◌}
use Rattle.foundation.specs.Results.{ok_same, step_ok}
use Rattle.jiff_core.specs.declared.timestamp.Timestamp.{Timestamp}
use Rattle.sigstore_keys.specs.declared.key.VerificationKey.{VerificationKey}
use Rattle.sigstore_keys.specs.Good.{Judge, is_good}
use Rattle.sigstore_keys.specs.Keyring.{Ring}
use Rattle.sigstore_entries.specs.declared.entry.TransparencyLogEntry.{TransparencyLogEntry}
use Rattle.sigstore_entries.specs.Promise.{payload_of}
use Rattle.sigstore_log.specs.declared.error.LogError.{LogError}
use Rattle.sigstore_log.specs.declared.error.LogError.TheVariants as refusal
use Rattle.sigstore_log.specs.Promise.{id_of, key_of, is_promised, promise_of, tells_time, is_past_or_now, time_judged, told_by, promise_judged}
use Rattle.sigstore_log.specs.Logged.{IsPromised}

-- ---- the id

id_by : (b : Bool) (id y : List ℕ) → ◌≡◌ {A = Result (List ℕ) LogError} (if b then Ok id else Err refusal.MalformedEntry) (Ok y) → (b ≡ true) × (y ≡ id)
id_by true id y h = (refl, sym (ok_same id y h))
id_by false id y h = cc

pub id_means : (id y : List ℕ) → id_of id ≡ Ok y → (length id ≡ 32) × (y ≡ id)
id_means id y h = let both = id_by (nat_eq (length id) 32) id y h in (eqb-true (length id) 32 both.0, both.1)

id_passes : (id : List ℕ) → length id ≡ 32 → id_of id ≡ Ok id
id_passes id h = ap (λ (b : Bool). if b then Ok id else Err refusal.MalformedEntry) (eq-eqb (length id) 32 h)

-- ---- the promise

passed : (b : Bool) (x : ⊤) → ◌≡◌ {A = Result ⊤ LogError} (if b then Ok tt else Err refusal.InclusionPromise) (Ok x) → b ≡ true
passed true x h = refl
passed false x h = cc

-- there is a payload over which the promise is good
abbrev IsOver : Judge → VerificationKey → Option (List ℕ) → List ℕ → Type 0
IsOver accepts key o promise = (payload : List ℕ) × (o ≡ Some payload) × (is_good accepts key payload promise ≡ true)

over_means : (accepts : Judge) (key : VerificationKey) (o : Option (List ℕ)) (promise : List ℕ) → is_promised accepts key o promise ≡ true → IsOver accepts key o promise
over_means accepts key None promise h = cc
over_means accepts key (Some payload) promise h = (payload, refl, h)

module _ (accepts : Judge) (logs : Ring) (now : Timestamp) (entry : TransparencyLogEntry) (promise : List ℕ) where
  abbrev pub after_key : VerificationKey → Result ⊤ LogError
  after_key key = if is_promised accepts key (payload_of entry) promise then Ok tt else Err refusal.InclusionPromise

  abbrev pub after_id : List ℕ → Result ⊤ LogError
  after_id id = key_of logs now id entry.integrated_time >>= after_key

  -- the parts of a promise that is the log's, but for its time
  abbrev Parts : Type 0
  Parts = (length entry.log_id.key_id ≡ 32)
      × ((key : VerificationKey) × (key_of logs now entry.log_id.key_id entry.integrated_time ≡ Ok key) × IsOver accepts key (payload_of entry) promise)

  of_means : (x : ⊤) → promise_of accepts logs now entry promise ≡ Ok x → Parts
  unfolding promise_of
  of_means x h =
      let a = step_ok (id_of entry.log_id.key_id) after_id x h in
      let id = id_means entry.log_id.key_id a.0 a.1 in
      let b = step_ok (key_of logs now entry.log_id.key_id entry.integrated_time) after_key x (subst (λ i. after_id i ≡ Ok x) id.1 a.2) in
      (id.0, (b.0, b.1, over_means accepts b.0 (payload_of entry) promise (passed (is_promised accepts b.0 (payload_of entry) promise) x b.2)))

  of_passes : Parts → promise_of accepts logs now entry promise ≡ Ok tt
  unfolding promise_of
  of_passes p =
      ap (λ r. r >>= after_id) (id_passes entry.log_id.key_id p.0)
      ∙ ap (λ r. r >>= after_key) p.1.1
      ∙ ap (λ (b : Bool). if b then Ok tt else Err refusal.InclusionPromise) (ap (λ o. is_promised accepts p.1.0 o promise) p.1.2.1 ∙ p.1.2.2)

-- ---- its time

time_means : (tells past : Bool) (x : ⊤) → ◌≡◌ {A = Result ⊤ LogError} (if tells && not past then Err refusal.IntegratedTime else Ok tt) (Ok x) → tells ≡ true → past ≡ true
time_means true true x h t = refl
time_means true false x h t = cc
time_means false past x h t = cc

time_passes : (tells past : Bool) → (tells ≡ true → past ≡ true) → ◌≡◌ {A = Result ⊤ LogError} (if tells && not past then Err refusal.IntegratedTime else Ok tt) (Ok tt)
time_passes true true h = refl
time_passes true false h = let is = h refl in cc
time_passes false past h = refl

-- ---- both ways

module _ (accepts : Judge) (logs : Ring) (now : Timestamp) (entry : TransparencyLogEntry) where
  abbrev after_promise : List ℕ → Result (Option Timestamp) LogError
  after_promise promise = time_judged now entry >>= λ _. Ok (told_by entry (Some promise))

  pub promise_means : (o : Option (List ℕ)) (time : Option Timestamp) → promise_judged accepts logs now entry o ≡ Ok time
      → IsPromised accepts logs now entry o × (time ≡ told_by entry o)
  promise_means None time h = (tt, sym (ok_same None time h))
  promise_means (Some promise) time h =
      let a = step_ok (promise_of accepts logs now entry promise) (λ _. after_promise promise) time h in
      let b = step_ok (time_judged now entry) (λ _. Ok (told_by entry (Some promise))) time a.2 in
      let p = of_means accepts logs now entry promise a.0 a.1 in (
        (
          p.0,
          record {
            key = p.1.0;
            key_is = p.1.1;
            payload = p.1.2.0;
            payload_is = p.1.2.1;
            good = p.1.2.2;
            past = time_means (tells_time entry.kind_version) (is_past_or_now now entry.integrated_time) b.0 b.1;
          },
        ),
        sym (ok_same (told_by entry (Some promise)) time b.2),
      )

  pub promise_passes : (o : Option (List ℕ)) → IsPromised accepts logs now entry o → promise_judged accepts logs now entry o ≡ Ok (told_by entry o)
  promise_passes None h = refl
  promise_passes (Some promise) h =
      let p = h.1 in
      ap (λ r. r >>= λ _. after_promise promise) (of_passes accepts logs now entry promise (h.0, (p.key, p.key_is, (p.payload, p.payload_is, p.good))))
      ∙ ap (λ r. r >>= λ _. Ok (told_by entry (Some promise))) (time_passes (tells_time entry.kind_version) (is_past_or_now now entry.integrated_time) p.past)
